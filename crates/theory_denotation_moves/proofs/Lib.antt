pub mod Places
pub mod Local
pub mod Agreeing
pub mod Cells
pub mod Blocks
pub mod Runs
pub mod Sound
