pub use Rattle.cpc_cli.specs.Reports
pub use Rattle.cpc_cli.specs.Answer
