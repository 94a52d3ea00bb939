pub mod Forms
pub mod Scenes
pub mod Rules
pub mod Satisfied
