pub mod Results
pub mod Beginnings
pub mod Brackets
pub mod Lists
