pub mod Numbers
pub mod Closures
