pub mod Parts
pub mod Places
pub mod Puts
pub mod Told
