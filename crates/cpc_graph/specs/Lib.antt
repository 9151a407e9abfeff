pub mod Ends
pub mod Labels
pub mod Ways
pub mod Joined
pub mod Headers
