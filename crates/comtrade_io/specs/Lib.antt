pub mod Faults
pub mod Safe
pub mod Written
pub mod Replayed
pub mod Pieces
pub mod Verbs
pub mod Commands
pub mod Asking
