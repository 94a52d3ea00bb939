pub mod Reindexed
pub mod Given
