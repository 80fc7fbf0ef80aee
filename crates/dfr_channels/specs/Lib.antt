pub mod LineFields
pub mod Parts
pub mod Decimals
pub mod Setups
pub mod Scans
pub mod Firing
