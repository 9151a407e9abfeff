pub mod Known
pub mod Whole
pub use Rattle.cpc_convert_rows.specs.Steps
