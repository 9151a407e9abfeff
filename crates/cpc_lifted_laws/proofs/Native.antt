pub mod Respawned
pub mod Arriving
pub mod Layouts
pub mod Accepted
pub mod Closing
pub mod Declared
pub mod Convertible
