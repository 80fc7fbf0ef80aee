pub mod Settings
pub mod Courses
pub mod Following
pub mod Dating
pub mod Truth
