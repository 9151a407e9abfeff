pub mod Held
pub mod Kept
pub mod Locals
pub mod Marks
pub mod Owners
pub mod Seen
pub mod Tabled
