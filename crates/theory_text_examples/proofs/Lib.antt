pub mod Worked
pub mod WorkedLimits
