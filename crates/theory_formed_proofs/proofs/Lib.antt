pub mod Instances
pub mod Arguments
pub mod Proofs
