pub mod Spellings
pub mod Pieces
pub mod Names
pub mod Brackets
pub mod Phrases
pub mod Proofs
