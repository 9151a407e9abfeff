pub mod Meeting
pub mod Integers
pub mod Assigning
pub mod Moves
pub mod Pointing
pub mod Sized
pub mod Operating
