pub mod Uses
pub mod Phrases
pub mod Proofs
pub mod Declarations
