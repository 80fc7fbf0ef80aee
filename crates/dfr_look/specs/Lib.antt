pub mod Units
pub mod Tracks
pub mod Flows
pub mod Talks
pub mod Faults
pub mod Entries
pub mod Looks
pub mod Throughs
