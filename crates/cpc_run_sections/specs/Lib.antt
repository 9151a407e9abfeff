pub mod Ends
pub use Rattle.cpc_native_sections.specs.Stops
pub use Rattle.cpc_native_sections.specs.Runs
pub use Rattle.cpc_native_sections.specs.Ends as NativeSectionsEnds
