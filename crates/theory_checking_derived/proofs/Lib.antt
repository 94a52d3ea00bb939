pub mod Pieces
pub mod Derived
