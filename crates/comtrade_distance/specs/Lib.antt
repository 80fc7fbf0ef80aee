pub mod LineFiles
pub mod Loops
pub mod Places
pub mod Primary
pub mod Ranges
