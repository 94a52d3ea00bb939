pub mod Captures
pub mod Heads
pub mod Branches
pub mod Handed
