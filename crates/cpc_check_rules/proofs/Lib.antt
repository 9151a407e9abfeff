pub mod Firsts
pub mod Sameness
pub mod Scopes
pub mod Tabled
