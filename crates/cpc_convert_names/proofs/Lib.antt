pub mod Growing
pub mod Rows
pub mod Copied
pub mod Finding
