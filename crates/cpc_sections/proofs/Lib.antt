pub mod Leaving
pub mod Reading
pub mod Telling
pub mod Writing
