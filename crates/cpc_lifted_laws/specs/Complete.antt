pub mod Reads
pub mod Sets
pub mod Kept
pub mod Steps
pub mod Standing
pub mod Laws
