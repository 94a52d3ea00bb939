pub mod Text
pub mod Faithful
