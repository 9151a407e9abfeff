pub mod Types
pub mod Ranks
pub mod Expressions
pub mod Statements
pub mod Items
pub mod Depths
pub mod Nesting
pub mod Style
