pub mod Terms
pub mod Same
pub mod Calls
pub mod Listed
