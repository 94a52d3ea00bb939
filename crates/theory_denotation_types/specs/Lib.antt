pub mod Meeting
pub mod Types
pub mod Laws
