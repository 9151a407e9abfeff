pub mod Counted
pub mod Meets
pub mod Ordered
pub mod Shown
pub mod Signed
pub mod Takes
pub use Rattle.cpc_meaning.specs.Requests
