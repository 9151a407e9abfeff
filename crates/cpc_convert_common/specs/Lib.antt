pub mod Members
pub mod Converted
pub mod Marks
pub mod Laws
