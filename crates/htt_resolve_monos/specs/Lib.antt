pub mod Sized
pub mod Pairs
