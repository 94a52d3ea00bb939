pub mod Renamed
pub mod Expanded
pub mod Examples
pub mod OneSkeleton
pub mod Computations
