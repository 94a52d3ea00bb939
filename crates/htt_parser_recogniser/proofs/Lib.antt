pub mod FirstSymbols
pub mod Lists
pub mod Deriving
pub mod Rounding
pub mod Filling
pub mod Retelling
