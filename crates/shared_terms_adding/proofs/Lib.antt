pub mod Opening
pub mod Rank
pub mod Growth
