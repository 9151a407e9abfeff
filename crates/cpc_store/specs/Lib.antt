pub mod Blocks
pub mod Codes
pub mod Seen
pub mod Store
