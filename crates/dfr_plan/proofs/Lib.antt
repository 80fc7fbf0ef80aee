pub mod Gives
pub mod Sources
