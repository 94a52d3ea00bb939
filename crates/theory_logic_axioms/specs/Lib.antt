pub mod Names
pub mod Table
pub mod Laws
pub mod Examples
