pub mod Bare
pub mod CutFields
pub mod Drafting
pub mod FirstByte
pub mod FirstFault
pub mod PlainBits
pub mod PlainNumbers
