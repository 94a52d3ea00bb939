pub mod Roots
pub mod Views
pub mod Added
