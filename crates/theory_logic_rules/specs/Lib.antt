pub mod Sequents
pub mod Rules
pub mod Laws
pub mod Examples
