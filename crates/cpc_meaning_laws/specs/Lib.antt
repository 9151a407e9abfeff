pub mod Pointer
pub mod Cell
pub mod Worked
