pub mod Fresh
pub mod Waits
pub mod Items
pub mod Running
pub mod Laws
