pub mod Arrivals
pub mod Taken
pub mod Laws
