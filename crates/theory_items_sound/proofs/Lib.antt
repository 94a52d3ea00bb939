pub mod Founded
pub mod Files
pub mod Kept
