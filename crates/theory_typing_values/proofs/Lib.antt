pub mod FirstOrder
pub mod Formed
pub mod FormedTrees
pub mod Values
pub mod Sorted
