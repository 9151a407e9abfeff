pub mod Plan
pub mod Memory
