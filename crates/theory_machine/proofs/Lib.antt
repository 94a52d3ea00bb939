pub mod Words
pub mod Standing
pub mod Fitting
pub mod Asking
pub mod Supplied
