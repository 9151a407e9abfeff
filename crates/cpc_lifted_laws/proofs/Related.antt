pub mod Sums
pub mod Owned
