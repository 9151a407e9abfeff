pub use Rattle.cpc_cli.proofs.TopLemmas
