pub mod Folded
pub mod Filled
pub mod Places
pub mod Total
pub mod Results
