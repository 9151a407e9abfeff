pub mod Written
pub mod Knowing
pub mod Found
pub mod Within
pub mod Made
