pub mod Room
pub mod Stepping
pub mod HeapLimit
pub mod Running
pub mod Ending
