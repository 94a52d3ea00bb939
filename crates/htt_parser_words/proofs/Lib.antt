pub mod Opening
pub mod Monotypes
pub mod Steps
pub mod Loops
pub mod MonoLists
