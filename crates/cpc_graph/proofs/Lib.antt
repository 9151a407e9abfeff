pub mod Marking
pub mod Labelled
pub mod Nodes
pub mod Linked
pub mod Formed
