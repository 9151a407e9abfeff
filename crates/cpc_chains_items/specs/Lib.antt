pub mod Listed
pub mod Passed
