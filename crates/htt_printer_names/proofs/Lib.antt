pub mod Inward
