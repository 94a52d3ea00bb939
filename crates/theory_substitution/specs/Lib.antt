pub mod Closing
pub mod Monotypes
pub mod Substitution
pub mod Laws
pub mod Examples
