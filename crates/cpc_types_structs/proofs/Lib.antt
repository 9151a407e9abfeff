pub mod Crossing
pub mod Cells
pub mod Entering
pub mod First
pub mod Known
pub mod Numbers
