pub mod Occurring
pub mod Starts
