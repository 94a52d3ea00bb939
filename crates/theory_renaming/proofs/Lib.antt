pub mod Identity
pub mod Composition
pub mod Scoping
pub mod Shifts
