pub mod Rows
pub mod View
pub mod Questions
pub mod Changes
pub mod Tests
