pub mod Command
pub mod Inputs
pub mod Counted
pub mod Ran
pub mod Answer
pub mod Asked
pub mod Exact
pub use Rattle.cpc_run_workers.specs.Reports
