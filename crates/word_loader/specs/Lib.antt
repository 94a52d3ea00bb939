pub mod Parts
pub mod Answers
pub mod Loads
pub mod Validity
