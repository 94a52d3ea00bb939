pub mod Moved
pub mod Captured
