pub mod Code
pub mod Made
pub mod Shorts
pub mod Taken
pub use Rattle.cpc_native.specs.Taken as NativeActsTaken
pub use Rattle.cpc_native.specs.Stacks
pub use Rattle.cpc_native.specs.declared.machine.Request
pub use Rattle.cpc_native.specs.declared.machine.Stepped
pub use Rattle.cpc_native.specs.Well
pub use Rattle.cpc_native_laws.specs.Laws
