pub mod Worked
pub mod Orders
