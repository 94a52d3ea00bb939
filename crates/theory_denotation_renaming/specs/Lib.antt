pub mod Along
pub mod Insertion
pub mod Laws
