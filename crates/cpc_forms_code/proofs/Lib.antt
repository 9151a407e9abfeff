pub mod Forgotten
pub mod Statements
