pub mod Through
pub mod Results
