pub mod Samples
pub mod Lists
