pub mod Begins
pub mod TypeReaders
pub mod TypeViews
pub mod Declarators
pub mod Views
