pub mod Within
pub mod Tables
pub mod Speakable
pub mod OneReading
pub mod Whole
pub mod Functions
