pub mod Below
pub mod Searches
