pub mod Kept
pub mod States
pub mod Checked
pub mod Items
