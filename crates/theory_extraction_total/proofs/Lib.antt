pub mod Applied
pub mod Varied
pub mod Existing
pub mod Known
pub mod Lists
pub mod Flattened
pub mod Decided
