pub mod Builtins
pub mod Served
