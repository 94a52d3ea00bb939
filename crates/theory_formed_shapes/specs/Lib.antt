pub mod Shapes
pub mod Formed
pub mod Environments
pub mod Laws
pub mod Examples
