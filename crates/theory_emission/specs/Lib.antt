pub mod Terms
pub mod Bodies
pub mod Codes
pub mod Examples
