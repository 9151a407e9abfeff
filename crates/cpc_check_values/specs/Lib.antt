pub mod Wants
pub mod Stands
pub mod Parts
pub mod Bases
pub mod Named
pub mod Walked
