-- What the reader's own functions answer. No public contract cites these.
pub mod LineFaults
pub mod BinaryRows
pub mod RowValues
pub mod PlainRows
