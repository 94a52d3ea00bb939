pub mod Once
pub mod Examples
pub mod Skeletons
