pub mod Programs
pub mod Seen
pub mod Points
pub mod Graphs
pub mod Splits
pub mod Lifts
