pub mod Steps
pub mod Systems
pub mod Simulation
pub mod Laws
pub mod Refusals
