pub mod Steps
pub mod Each
pub mod Beginning
pub mod Telling
