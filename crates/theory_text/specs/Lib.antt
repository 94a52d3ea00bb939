pub mod Bytes
pub mod Monotypes
pub mod Phrases
pub mod Proofs
