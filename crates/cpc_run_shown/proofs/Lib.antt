pub mod Underscores
pub mod Marks
