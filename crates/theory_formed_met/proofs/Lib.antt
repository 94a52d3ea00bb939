pub mod Occurring
pub mod Entries
