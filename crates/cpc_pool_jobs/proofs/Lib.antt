pub mod Lists
pub mod Seats
pub mod Steps
pub mod Takes
pub mod Passes
pub mod Only
