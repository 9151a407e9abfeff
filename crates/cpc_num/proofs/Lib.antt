pub mod DivisionLemmas
pub mod KindLemmas
pub mod OperatorLemmas
pub mod ResultLemmas
pub mod ShiftLemmas
pub mod KindSets
