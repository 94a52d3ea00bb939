pub mod Rows
pub mod Claims
pub mod Tables
pub mod Laws
