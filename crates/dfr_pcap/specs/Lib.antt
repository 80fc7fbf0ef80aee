pub mod Pieces
pub mod Wholes
pub mod Moments
pub mod Blocks
pub mod Bounds
pub mod Walks
pub mod Translations
