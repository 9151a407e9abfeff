pub mod TypeRows
pub mod ExprRows
pub mod StmtRows
pub mod ItemRows
pub mod DepthRows
pub mod NestRows
pub mod Back
