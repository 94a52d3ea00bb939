pub mod Sequents
pub mod Laws
pub mod Examples
