pub mod Members
pub mod Listed
pub mod Marks
pub mod Respawn
