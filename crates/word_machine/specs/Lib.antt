pub mod States
pub mod Steps
pub mod Limits
pub mod Runs
pub mod Ends
