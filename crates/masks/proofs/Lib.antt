pub mod Lanes
pub mod Lines
pub mod Listing
pub mod Rows
