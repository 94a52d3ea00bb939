pub mod Closed
pub mod Expanded
pub mod Terms
pub mod Typed
pub mod Fitted
pub mod Ends
