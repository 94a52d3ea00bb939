pub mod Even
pub mod Monotypes
pub mod Terms
pub mod Proofs
pub mod Files
pub mod Laws
