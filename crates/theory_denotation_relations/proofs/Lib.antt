pub mod Recursions
pub mod Related
pub mod Vals
pub mod Fuel
pub mod Choices
