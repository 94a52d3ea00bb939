pub mod Reindexing
pub mod Laws
