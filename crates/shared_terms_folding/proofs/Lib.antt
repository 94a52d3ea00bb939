pub mod Folds
pub mod Seen
pub mod Rows
pub mod Stood
pub mod Told
pub mod Others
pub mod Standing
