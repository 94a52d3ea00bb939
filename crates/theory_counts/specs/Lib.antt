pub mod Nodes
pub mod Depth
pub mod Laws
pub mod Examples
