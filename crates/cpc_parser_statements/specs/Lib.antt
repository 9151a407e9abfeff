pub mod SimpleReaders
pub mod LocalReaders
pub mod StmtReaders
pub mod RightViews
pub mod CodeViews
