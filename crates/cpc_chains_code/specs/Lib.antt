pub mod Given
pub mod Made
pub use Rattle.cpc_convert_needs_laws.specs.Laws
