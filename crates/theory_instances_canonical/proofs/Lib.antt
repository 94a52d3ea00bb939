pub mod Contexts
pub mod Values
pub mod More
pub mod Sites
pub mod Bodies
pub mod Taken
