pub mod Kinds
pub mod Levels
pub mod Marks
pub mod Written
pub mod Texts
pub mod Names
