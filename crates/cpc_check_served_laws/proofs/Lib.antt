pub mod Declared
pub mod Scopes
pub mod Served
