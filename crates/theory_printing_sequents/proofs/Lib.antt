pub mod Sequents
pub mod Examples
