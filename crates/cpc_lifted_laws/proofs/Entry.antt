pub mod Boxes
pub mod Marks
