pub mod Fillings
pub mod ShapesOf
pub mod Folded
pub mod Filled
pub mod Renamed
pub mod More
pub mod Monos
pub mod Worked
