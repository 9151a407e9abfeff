pub mod Faults
pub mod Refusals
pub mod Passes
pub mod Promised
