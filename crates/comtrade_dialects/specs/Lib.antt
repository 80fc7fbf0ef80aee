pub mod Forms
pub mod Notes
