pub mod Native
pub mod Rows
pub mod Laws
pub mod Refusals
