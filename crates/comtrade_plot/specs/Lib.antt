pub mod Beside
pub mod Equal
