pub mod Stable
pub mod Renamed
pub mod Cells
pub mod Stars
pub mod Unfolding
pub mod Examples
pub mod Chain
