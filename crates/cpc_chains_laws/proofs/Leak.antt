pub mod Blocks
pub mod Weights
pub mod Threads
pub mod Related
pub mod Overs
pub mod Runs
pub mod Theorem
