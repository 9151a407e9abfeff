pub mod BoxStores
pub mod BoxActs
pub mod BoxRuns
pub mod JobActs
pub mod JobRuns
