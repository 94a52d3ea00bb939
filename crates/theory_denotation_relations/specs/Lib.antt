pub mod Relating
pub mod Files
pub mod Laws
