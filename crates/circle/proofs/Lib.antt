pub mod Steps
pub mod Ring
pub mod Crashed
pub mod Noticed
pub mod Gaps
pub mod Costs
pub mod Tables
pub mod Loads
