pub mod Short
pub mod Phrases
pub mod Proofs
