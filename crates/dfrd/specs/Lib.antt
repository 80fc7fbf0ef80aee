pub mod Feeding
pub mod Memory
pub mod Oldest
