pub mod Said
pub mod Readings
pub mod Laws
