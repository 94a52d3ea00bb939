pub mod Positions
pub mod Contexts
pub mod Worlds
pub mod Typing
pub mod Laws
pub mod Examples
pub mod Orders
