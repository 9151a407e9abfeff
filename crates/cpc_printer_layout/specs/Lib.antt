pub mod Sheets
pub mod Layout
