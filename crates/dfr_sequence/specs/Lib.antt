pub mod Scans
pub mod Contacts
pub mod Sequences
pub mod Laws
pub mod Lines
