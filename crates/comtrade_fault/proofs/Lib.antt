pub mod MoreRows
pub mod MoreTurns
pub mod FirstRows
pub mod Chains
