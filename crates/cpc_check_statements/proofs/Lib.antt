pub mod Order
pub mod Parts
pub mod Nodes
pub mod Declared
pub mod Alike
pub mod Walk
