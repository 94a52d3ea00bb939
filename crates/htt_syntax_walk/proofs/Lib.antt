pub mod Chains
pub mod Keeping
pub mod Blocks
pub mod KeepingProofs
