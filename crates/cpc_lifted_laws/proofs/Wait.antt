pub mod Given
pub mod Fitting
