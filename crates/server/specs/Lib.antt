pub mod Cells
pub mod Servers
pub mod Changes
