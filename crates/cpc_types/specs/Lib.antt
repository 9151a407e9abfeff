pub mod Blocks
pub mod Declaring
pub mod Found
pub mod Meanings
pub mod Scoped
pub mod Integral
