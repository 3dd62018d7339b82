pub mod Numbers
pub mod Texts
pub mod Cursors
pub mod Laying
pub mod Bytes
