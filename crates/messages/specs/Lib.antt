pub mod Errors
pub mod Phases
pub mod Places
pub mod Waiting
