pub mod Refusing
pub mod Storing
pub mod Beginnings
