pub mod Pinned
pub mod Laws
