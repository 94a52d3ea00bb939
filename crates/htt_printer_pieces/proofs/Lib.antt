pub mod FormRows
pub mod MonoRows
pub mod PlaceRows
