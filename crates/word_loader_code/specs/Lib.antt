pub mod Valid
pub mod Machine
pub mod Laws
