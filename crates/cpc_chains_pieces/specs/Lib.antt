pub use Rattle.cpc_chains_opening.specs.Whole
pub use Rattle.cpc_chains_lines.specs.Around
pub use Rattle.cpc_chains_lines.specs.declared.around.Around as ChainsLinesAround
pub use Rattle.cpc_chains_opening.specs.Parts
pub use Rattle.cpc_chains_lines.specs.Written
