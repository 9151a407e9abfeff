pub mod Bodies
pub mod Ends
pub mod Indexed
pub mod Meanings
pub mod Offsets
pub mod Placed
pub mod Sized
pub mod Tabled
