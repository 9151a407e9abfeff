pub mod Acts
pub mod Arrivals
pub mod Passes
