pub mod Arguments
pub mod Called
pub mod Read
pub mod OtherKinds
