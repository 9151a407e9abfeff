pub mod Scoped
pub mod Ways
pub mod Gathered
