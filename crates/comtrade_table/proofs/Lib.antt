pub mod InPieces
pub mod InPlace
