pub mod Digits
pub mod Asdus
pub mod ElementsRead
pub mod OneList
