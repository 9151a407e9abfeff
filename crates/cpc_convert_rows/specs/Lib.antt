pub mod Ways
pub mod Steps
pub mod Laws
pub mod Marks
pub mod Numbers
pub use Rattle.cpc_convert_routines.specs.Routines
pub use Rattle.cpc_chains_event.specs.Rows
