pub mod Renamed
pub mod Substituted
pub mod Canonical
pub mod Instances
pub mod Arguments
