pub mod Chains
pub mod Once
