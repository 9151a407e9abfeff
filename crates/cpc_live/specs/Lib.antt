pub mod Feeds
pub mod Turns
