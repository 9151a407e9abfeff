pub mod Declares
pub mod Indexed
pub mod Placed
pub mod Sized
pub mod Structs
