pub mod Lexing
pub mod Leaves
pub mod Phrases
pub mod Proofs
pub mod Printed
