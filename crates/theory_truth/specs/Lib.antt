pub mod Worlds
pub mod TermValue
pub mod Truth
pub mod Predicates
pub mod Atoms
pub mod Laws
pub mod Examples
