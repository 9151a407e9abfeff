pub mod Asking
pub mod Copying
pub mod Finding
pub mod Leading
pub mod Pointing
pub mod Running
