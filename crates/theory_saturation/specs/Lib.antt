pub mod Saturation
