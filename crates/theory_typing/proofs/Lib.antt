pub mod Once
pub mod Worked
pub mod Bodies
pub mod Given
pub mod Orders
