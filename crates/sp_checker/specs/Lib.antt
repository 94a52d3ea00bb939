pub mod Made
pub mod Moves
