pub mod Agreeing
pub mod Keys
