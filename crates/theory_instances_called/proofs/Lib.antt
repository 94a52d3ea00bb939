pub mod Closed
pub mod Given
pub mod Called
