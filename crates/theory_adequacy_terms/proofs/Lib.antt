pub mod Adequate
pub mod Same
