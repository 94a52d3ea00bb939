pub mod Reindexed
pub mod Stable
pub mod Recursions
pub mod Given
pub mod Shaped
