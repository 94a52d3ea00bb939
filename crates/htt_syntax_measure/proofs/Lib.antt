pub mod MeasureLevels
pub mod Loops
pub mod Itself
pub mod Binders
pub mod Limits
