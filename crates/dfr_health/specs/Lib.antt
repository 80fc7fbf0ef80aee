pub mod Levels
pub mod Counts
pub mod Metrics
pub mod Page
