pub mod Recursions
pub mod Agreed
pub mod Unfolded
