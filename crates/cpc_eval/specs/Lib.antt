pub mod Around
pub mod Numbers
pub mod Results
pub mod Shapes
pub mod Spots
pub mod Values
