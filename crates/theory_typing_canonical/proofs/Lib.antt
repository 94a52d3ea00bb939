pub mod StatesKept
pub mod Entries
pub mod Typed
