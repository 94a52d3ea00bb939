pub mod Depths
pub mod Renaming
pub mod RenamingProofs
pub mod Places
