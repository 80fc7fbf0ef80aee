pub mod Appending
pub mod Capped
pub mod Civil
pub mod Comparing
pub mod Cuts
pub mod Digits
pub mod FourDigits
pub mod LineCuts
pub mod Lists
pub mod PlainBits
pub mod PlainNumbers
pub mod Points
mod Rows
pub mod SampleNumbers
pub mod Scale
pub mod Scaled
pub mod Short
