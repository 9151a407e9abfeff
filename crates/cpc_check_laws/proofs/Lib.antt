pub mod Native
pub mod Sound
pub mod Run
pub mod Kept
