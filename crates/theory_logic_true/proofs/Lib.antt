pub mod Scenes
pub mod Arguments
pub mod Unfoldings
pub mod Rules
pub mod True
pub mod WrongCase
pub mod Examples
pub mod Consistent
