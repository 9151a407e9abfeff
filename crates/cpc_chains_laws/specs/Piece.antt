pub mod Rows
pub mod Stood
pub mod Known
pub mod Laws
