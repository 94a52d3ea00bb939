pub mod Worked
pub mod Bodies
pub mod Valid
pub mod Merged
pub mod Effects
pub mod Runs
