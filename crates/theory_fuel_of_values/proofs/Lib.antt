pub mod Kept
pub mod Runs
pub mod Recursions
pub mod Terms
pub mod Values
pub mod Law
