pub mod Lines
pub mod Rules
pub mod Headers
pub mod Rows
