pub mod Derived
pub mod Laws
pub mod Examples
