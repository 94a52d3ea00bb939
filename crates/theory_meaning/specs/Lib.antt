pub mod Closures
pub mod Meaning
pub mod Choices
pub mod Laws
pub mod Examples
pub mod Shipped
