pub mod Rows
pub mod Items
pub mod Names
pub mod Source
pub mod Meant
