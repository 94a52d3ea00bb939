pub mod Putting
pub mod Sugar
