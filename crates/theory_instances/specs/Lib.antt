pub mod Calls
pub mod Occurrences
pub mod Keys
pub mod Bodies
pub mod Varying
pub mod Lists
pub mod Examples
pub mod Orders
