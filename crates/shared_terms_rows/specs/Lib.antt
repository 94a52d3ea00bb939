pub mod Parts
pub mod Forms
pub mod Rows
pub mod Laws
