pub mod Lanes
pub mod Lines
pub mod Listed
pub mod Table
