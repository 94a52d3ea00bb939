pub mod Grows
pub mod Fillings
pub mod Slots
