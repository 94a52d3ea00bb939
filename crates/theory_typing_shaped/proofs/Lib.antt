pub mod Values
pub mod Shaped
pub mod Typed
pub mod Fitting
