pub mod Tables
pub mod Counted
pub mod Words
pub mod Called
pub mod Book
pub use Rattle.cpc_convert_routines.specs.Names
