pub mod Written
pub mod Around
pub mod Puts
pub use Rattle.cpc_convert_needs.specs.Known
pub use Rattle.cpc_convert_needs.specs.Whole
pub use Rattle.cpc_convert_names.specs.Called
