pub mod Qualities
pub mod Looks
pub mod Throughs
