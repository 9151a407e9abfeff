pub mod Moves
pub mod Agree
