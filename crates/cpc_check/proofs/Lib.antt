pub mod Spelled
pub mod Parts
pub mod Whole
pub mod Crosses
