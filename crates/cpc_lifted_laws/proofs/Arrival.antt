pub mod Acts
pub mod Runs
pub mod Split
pub mod Accepted
