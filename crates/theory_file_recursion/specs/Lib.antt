pub mod Proofs
pub mod Doubling
