pub mod Calls
pub mod Parts
pub mod Plans
pub mod Rows
pub mod Stops
