pub mod Rows
pub mod Steps
pub mod Marks
pub mod Words
pub mod Literals
pub mod Places
pub mod Lists
