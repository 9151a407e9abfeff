pub mod Growing
pub mod Respawned
