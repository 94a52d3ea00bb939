pub mod Reached
pub mod Phrases
pub mod Complete
