pub mod Slots
pub mod Reading
pub mod Rows
pub mod Unread
