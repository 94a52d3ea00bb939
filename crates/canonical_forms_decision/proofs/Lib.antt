pub mod Entries
pub mod Folded
pub mod Loops
pub mod Decided
