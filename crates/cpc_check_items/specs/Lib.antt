pub mod Signatures
pub mod Pasts
pub mod Parts
