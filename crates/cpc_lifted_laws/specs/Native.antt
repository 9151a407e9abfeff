pub mod Instance
pub mod Convertible
pub mod Laws
