pub mod Spanned
pub mod Lists
