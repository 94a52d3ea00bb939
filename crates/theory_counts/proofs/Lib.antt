pub mod NodesKept
pub mod DepthKept
pub mod Worked
pub mod Shallow
