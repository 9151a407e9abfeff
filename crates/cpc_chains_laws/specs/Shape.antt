pub mod Help
pub mod Images
pub mod Shape
pub mod Refusals
pub mod Laws
