pub mod Values
pub mod Heaps
pub mod ValueLaws
pub mod HeapLaws
pub mod Examples
