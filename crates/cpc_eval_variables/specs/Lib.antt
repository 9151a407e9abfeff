pub mod Addressed
pub mod Kept
pub mod Scoped
pub mod Told
pub mod Typed
pub use Rattle.cpc_check_rules.specs.Apart
