pub mod Stands
pub mod Asked
pub mod Meeting
pub mod Alike
pub mod Names
pub mod Native
pub mod Shaped
pub mod Refused
