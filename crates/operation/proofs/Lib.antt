pub mod Fits
pub mod Ordered
