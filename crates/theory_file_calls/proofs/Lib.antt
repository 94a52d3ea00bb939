pub mod Entries
pub mod Rows
pub mod Runs
pub mod Calls
pub mod Takers
pub mod Endless
