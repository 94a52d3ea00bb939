pub mod Stops
pub mod Phrases
pub mod Files
