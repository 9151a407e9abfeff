pub mod Sums
pub mod Boxes
pub mod Bounds
pub mod Laws
pub mod Cut
