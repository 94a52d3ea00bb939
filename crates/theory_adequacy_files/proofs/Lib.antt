pub mod Growing
pub mod Values
pub mod Files
