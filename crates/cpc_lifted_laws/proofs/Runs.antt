pub mod Bounds
pub mod Signed
pub mod Sections
pub mod Called
