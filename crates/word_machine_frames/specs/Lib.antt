pub mod Stacks
pub mod StackCode
pub mod Activations
