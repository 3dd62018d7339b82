pub mod Counts
pub mod Facts
pub mod Views
pub mod Steps
pub mod Beginnings
pub mod Same
pub mod Searches
pub mod Answering
