pub mod Stops
pub mod Limits
pub mod Results
pub mod Checking
pub mod Laws
