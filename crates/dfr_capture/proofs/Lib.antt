pub mod Firsts
pub mod Channels
pub mod Elements
pub mod Listenings
pub mod Scans
pub mod Feeding
pub mod Frames
