pub mod Maps
pub mod Known
