pub mod Reading
pub mod Told
pub mod Gathered
pub mod Alike
pub mod Means
pub mod Marks
pub mod Listed
pub mod Routines
