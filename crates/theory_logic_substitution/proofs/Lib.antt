pub mod Entries
pub mod Terms
pub mod Heaps
pub mod Monotypes
pub mod Arguments
