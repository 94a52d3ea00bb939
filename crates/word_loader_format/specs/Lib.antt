pub mod Numbers
pub mod Table
pub mod Layout
pub mod Rows
pub mod Reading
pub mod Laws
