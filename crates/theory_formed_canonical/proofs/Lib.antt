pub mod Bare
pub mod Monos
