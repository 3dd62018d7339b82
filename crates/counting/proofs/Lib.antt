pub mod Counts
pub mod Searches
pub mod Sums
pub mod Ranges
