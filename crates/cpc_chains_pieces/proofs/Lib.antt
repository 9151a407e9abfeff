mod Rowed
pub use Rattle.cpc_chains_opening.proofs.Made
