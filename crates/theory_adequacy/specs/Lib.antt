pub mod Adequacy
pub mod Laws
pub mod Examples
