pub mod Put
pub mod Bodies
