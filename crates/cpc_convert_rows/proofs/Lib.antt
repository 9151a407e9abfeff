mod Led
mod Marking
pub mod Owning
pub mod Turned
mod Reached
mod Placing
pub mod Wanting
