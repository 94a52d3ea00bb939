pub mod Limits
pub mod Sizes
pub mod Crowds
pub mod Precedence
