pub mod AreOut
mod Collecting
mod Held
mod Numbered
mod Submitted
mod Told
