pub mod Crashed
pub mod Noticed
