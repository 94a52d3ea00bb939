pub mod Found
pub mod Order
pub mod Given
pub mod Laws
