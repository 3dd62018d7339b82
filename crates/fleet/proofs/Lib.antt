pub mod Changed
pub mod PastTheEnd
pub mod Rows
