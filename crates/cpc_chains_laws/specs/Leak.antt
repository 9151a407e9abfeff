pub mod Need
pub mod Held
pub mod Laws
