pub mod FrameLaws
pub mod States
pub mod Laws
