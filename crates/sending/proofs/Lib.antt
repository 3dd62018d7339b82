pub mod Posting
pub mod Telling
