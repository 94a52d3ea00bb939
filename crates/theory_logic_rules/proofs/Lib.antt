pub mod Once
pub mod Positions
pub mod Examples
pub mod Forms
pub mod Variables
