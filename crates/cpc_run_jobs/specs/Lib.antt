pub mod Held
pub mod Holding
pub mod Telling
pub mod Under
