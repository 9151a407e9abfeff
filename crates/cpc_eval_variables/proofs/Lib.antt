pub mod Addressing
pub mod Keeping
pub mod Nodes
pub mod Slots
pub mod Walking
