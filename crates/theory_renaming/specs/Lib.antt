pub mod Renaming
pub mod Scoped
pub mod Laws
