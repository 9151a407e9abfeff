pub mod Laws
pub mod Systems
pub mod Paths
pub mod Refusals
