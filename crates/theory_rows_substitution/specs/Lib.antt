pub mod Substitution
pub mod Laws
