pub mod Laws
pub use Rattle.cpc_convert_needs.specs.Known
pub use Rattle.cpc_convert_needs.specs.Whole
pub use Rattle.cpc_lifted_laws.specs.Accepted.Names
