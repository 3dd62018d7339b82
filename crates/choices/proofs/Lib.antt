mod Filled
pub mod Found
pub mod GroupSets
mod Ordered
pub mod Ranks
