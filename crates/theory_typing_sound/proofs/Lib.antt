pub mod Values
pub mod Closed
pub mod Ends
pub mod Parts
pub mod Sound
