pub mod BitLemmas
pub mod CodeLemmas
pub mod Walks
pub mod States
pub mod Excuses
pub mod Places
