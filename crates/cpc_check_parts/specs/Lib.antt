pub mod ItemParts
pub mod Parts
pub mod Faults
