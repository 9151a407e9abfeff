pub mod Coded
pub mod Lawful
pub mod Making
pub mod Numbers
pub mod Written
pub use Rattle.cpc_native.proofs.Stepping
