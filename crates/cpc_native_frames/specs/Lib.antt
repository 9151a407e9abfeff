pub mod Back
pub mod Costs
pub mod Frames
pub mod Living
pub mod Made
pub use Rattle.cpc_eval.specs.Numbers
pub use Rattle.cpc_eval_index.specs.Indexed
pub use Rattle.cpc_eval_index.specs.declared.index.Index
