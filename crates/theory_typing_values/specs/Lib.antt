pub mod FirstOrder
pub mod Laws
