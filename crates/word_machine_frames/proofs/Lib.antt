pub mod Copies
pub mod Parts
pub mod Stacks
pub mod Calls
