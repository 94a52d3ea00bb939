pub mod Texts
pub mod Shapes
pub mod Scoping
pub mod Canonicity
pub mod Examples
