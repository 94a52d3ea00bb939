pub mod Found
pub mod Measured
