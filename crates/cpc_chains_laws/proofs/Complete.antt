pub mod Flat
pub mod Frames
pub mod Pieces
pub mod FrameRows
pub mod Made
