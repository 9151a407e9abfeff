pub mod Standing
pub mod Plain
