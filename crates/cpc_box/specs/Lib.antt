pub mod Manners
pub mod Outline
pub mod Walked
