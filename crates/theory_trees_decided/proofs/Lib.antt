pub mod Codes
pub mod Decided
