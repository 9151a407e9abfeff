pub mod Ends
pub mod Led
pub mod Pointed
pub use Rattle.cpc_native.specs.Stops
pub use Rattle.cpc_native.specs.Runs
