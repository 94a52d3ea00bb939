pub mod Values
pub mod Held
pub mod Moves
pub mod Terms
