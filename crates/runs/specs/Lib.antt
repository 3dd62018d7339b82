pub mod Prefixes
pub mod Plays
