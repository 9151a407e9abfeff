pub mod Unboxed
