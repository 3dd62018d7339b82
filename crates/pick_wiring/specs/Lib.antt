pub mod Order
pub mod Picks
pub mod Piled
pub mod Wires
