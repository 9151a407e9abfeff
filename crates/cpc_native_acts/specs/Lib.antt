pub mod Acts
pub mod Deeds
pub mod Taken
pub use Rattle.cpc_native_stood.specs.Stood
pub use Rattle.cpc_native_plans.specs.Stops
