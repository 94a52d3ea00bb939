pub mod Outward
pub mod Rows
