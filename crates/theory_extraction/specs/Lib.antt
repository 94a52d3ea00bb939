pub mod Extraction
pub mod Examples
