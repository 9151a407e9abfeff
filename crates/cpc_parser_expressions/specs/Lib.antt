pub mod Shapes
pub mod ExprReaders
pub mod Steps
pub mod ShapeViews
pub mod PartCount
