pub mod PureFuel
pub mod RunFuel
pub mod Handed
pub mod Examples
pub mod Shipped
