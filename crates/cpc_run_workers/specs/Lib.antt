pub use Rattle.cpc_run.specs.Reports
pub use Rattle.cpc_run.specs.Hosts
