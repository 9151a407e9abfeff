pub mod Jobs
pub mod Reads
pub mod Backs
