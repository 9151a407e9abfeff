pub mod Crossing
pub mod Kept
pub mod Ended
pub mod FieldRows
pub mod First
pub mod Known
pub mod Standing
pub mod Tabled
