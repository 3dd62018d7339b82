pub mod Faults
pub mod Headers
pub mod Steps
pub mod Reading
pub mod Whole
pub mod Bytes
pub mod RoundTrip
pub mod Texts
