pub mod TakenUp
pub mod Captured
pub mod Pinned
pub mod Instances
pub mod Calls
