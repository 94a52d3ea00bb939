pub mod Owed
pub mod More
pub mod True
