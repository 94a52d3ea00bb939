pub mod Maps
pub mod Grows
pub mod Slots
pub mod Standing
