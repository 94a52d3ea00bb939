pub mod Each
pub mod Pinned
pub mod Vals
pub mod Made
