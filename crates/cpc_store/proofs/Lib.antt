pub mod BlockLemmas
pub mod CellLemmas
pub mod CodeLemmas
pub mod ListLemmas
pub mod StoreLemmas
