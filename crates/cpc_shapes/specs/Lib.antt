pub mod Counted
pub mod Declaring
pub mod Forms
pub mod Found
pub mod Indexed
pub mod Listed
pub mod Shapes
pub use Rattle.cpc_check_rules.specs.Apart
