pub mod SideConditions
pub mod Counts
pub mod Shapes
