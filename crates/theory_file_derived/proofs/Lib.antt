pub mod Derived
pub mod Worked
