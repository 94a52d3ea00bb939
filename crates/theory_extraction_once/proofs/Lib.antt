pub mod Taken
pub mod Lists
pub mod Flat
pub mod Codes
