pub mod ItemReaders
pub mod ItemViews
