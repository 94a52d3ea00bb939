pub mod Once
pub mod Proved
pub mod Reached
pub mod Worked
