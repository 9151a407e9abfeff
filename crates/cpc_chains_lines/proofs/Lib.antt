pub mod Arrival
pub mod Framing
pub mod Listed
pub mod Loading
pub mod Puts
pub mod Single
pub mod Standing
pub mod Within
