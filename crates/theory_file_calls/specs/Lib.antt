pub mod Parts
pub mod Calls
pub mod Takers
pub mod Endless
