pub mod Agreed
pub mod Files
