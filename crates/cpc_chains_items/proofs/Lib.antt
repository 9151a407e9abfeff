pub mod Codes
pub mod Keeping
pub mod Passes
pub mod Putting
pub mod Standing
