pub mod Cutting
pub mod MetCommands
