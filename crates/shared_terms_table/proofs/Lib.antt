pub mod Facts
pub mod Lists
pub mod Equal
pub mod Once
pub mod Standing
