pub mod Lines
pub mod Queued
