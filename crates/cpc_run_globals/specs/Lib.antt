pub mod Counts
pub mod Layouts
pub mod Rows
pub mod Starts
