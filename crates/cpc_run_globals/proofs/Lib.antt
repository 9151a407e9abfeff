pub mod Blocks
pub mod Counted
pub mod Held
pub mod Stopping
pub mod Texts
