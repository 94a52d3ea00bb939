pub mod Places
pub mod Phrases
pub mod Files
pub mod One
pub mod Examples
