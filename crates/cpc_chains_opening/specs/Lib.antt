pub mod Whole
pub mod Labels
pub mod Parts
