pub mod Shapes
pub mod Folded
