pub mod Tests
pub mod Laying
pub mod RoundTrip
