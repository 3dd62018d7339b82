pub mod Tags
pub mod Events
pub mod Parts
