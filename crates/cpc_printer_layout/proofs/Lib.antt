pub mod NextBytes
pub mod SpelledJoins
pub mod Blanks
pub mod Laid
