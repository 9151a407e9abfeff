pub mod Kept
pub mod Boxes
pub mod Returns
