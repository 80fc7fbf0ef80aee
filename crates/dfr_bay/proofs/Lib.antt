pub mod Counts
pub mod Places
pub mod Boards
pub mod Bounds
pub mod Popping
pub mod Beginning
pub mod Complete
