pub mod Contexts
pub mod Environments
pub mod Laws
