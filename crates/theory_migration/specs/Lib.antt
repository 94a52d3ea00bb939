pub mod Migration
pub mod Laws
pub mod Examples
