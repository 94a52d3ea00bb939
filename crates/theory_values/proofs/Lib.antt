pub mod Encoding
pub mod Decoding
pub mod Operations
pub mod Joins
pub mod Examples
