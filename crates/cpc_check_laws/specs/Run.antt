pub mod Plain
pub mod Shape
pub mod Laws
pub mod Refusals
