pub mod Keys
pub mod Counted
pub mod Laws
