pub mod Monotypes
pub mod Examples
