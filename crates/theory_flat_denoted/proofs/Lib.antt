pub mod Terms
pub mod Bodies
pub mod Main
