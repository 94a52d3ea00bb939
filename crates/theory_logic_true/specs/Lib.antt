pub mod Sequents
pub mod Laws
pub mod WrongCase
pub mod Examples
