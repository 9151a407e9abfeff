pub mod CellCounts
pub mod CodeParts
pub mod FormParts
pub mod Indexes
pub mod Latest
pub mod OperatorParts
