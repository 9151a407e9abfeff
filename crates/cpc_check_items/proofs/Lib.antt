pub mod Agreeing
pub mod Telling
pub mod Notes
pub mod Grouped
