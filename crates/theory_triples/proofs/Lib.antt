pub mod Stable
pub mod Examples
