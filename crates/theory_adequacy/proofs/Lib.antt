pub mod Fuel
pub mod Reindexed
pub mod Matching
pub mod Recursions
pub mod Valued
pub mod Examples
