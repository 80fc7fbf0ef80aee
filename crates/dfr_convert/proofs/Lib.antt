pub mod Slices
pub mod Known
pub mod Taken
