pub mod Form
pub mod Matching
pub mod Examples
