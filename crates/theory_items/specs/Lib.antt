pub mod Items
pub mod Definitions
pub mod Laws
pub mod Examples
