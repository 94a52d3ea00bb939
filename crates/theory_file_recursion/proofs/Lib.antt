pub mod Typed
pub mod Words
pub mod Ends
pub mod Doubling
