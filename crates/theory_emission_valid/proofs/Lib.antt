pub mod Standing
pub mod Terms
pub mod Bodies
pub mod Fields
pub mod Codes
