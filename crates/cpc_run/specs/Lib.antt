pub mod Answers
pub mod Going
pub mod Hosts
pub mod Sections
pub mod States
pub mod Reports
pub mod Shorts
