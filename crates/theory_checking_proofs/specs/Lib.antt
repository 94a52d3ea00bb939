pub mod Rows
pub mod Checking
pub mod Laws
pub mod Examples
