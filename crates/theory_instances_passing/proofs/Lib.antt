pub mod Own
pub mod Passing
pub mod Walked
