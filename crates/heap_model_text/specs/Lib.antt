pub mod Cutting
pub mod HeapText
pub mod Reading
pub mod Stops
pub mod Laws
pub mod Examples
