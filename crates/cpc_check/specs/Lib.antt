pub mod Accepted
pub mod Starts
