pub mod Zeros
pub mod Parts
pub mod Made
pub mod Moved
pub mod Prepares
