pub mod Plans
pub mod Streams
pub mod Units
pub mod Rows
pub mod Elements
pub mod Contacts
pub mod Listening
pub mod Recordings
