pub mod Skeletons
pub mod Folding
pub mod Eta
pub mod Contexts
pub mod Canonical
pub mod Laws
pub mod Examples
