pub mod Measured
pub mod Built
