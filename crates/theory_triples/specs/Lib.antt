pub mod Triples
pub mod Laws
pub mod Examples
