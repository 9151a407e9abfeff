pub mod Suits
pub mod Control
pub mod Typed
pub mod Promises
pub mod Examples
