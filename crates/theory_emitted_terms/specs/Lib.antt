pub mod Layouts
pub mod Held
pub mod Laws
