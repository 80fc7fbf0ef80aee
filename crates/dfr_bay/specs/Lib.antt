pub mod Settings
pub mod Arrivals
pub mod Readings
pub mod Names
pub mod Lines
pub mod Waiting
pub mod Laws
