pub mod Tells
pub mod Words
pub mod Terms
pub mod Formulas
pub mod Proofs
pub mod Files
pub mod Laws
