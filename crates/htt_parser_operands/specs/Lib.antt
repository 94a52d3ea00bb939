pub mod Signs
pub mod Parts
