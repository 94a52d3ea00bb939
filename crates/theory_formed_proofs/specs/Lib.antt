pub mod Sequents
pub mod Derivations
pub mod Laws
