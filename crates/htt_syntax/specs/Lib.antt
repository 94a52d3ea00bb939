pub mod Trees
pub mod Views
pub mod ProofViews
pub mod Levels
pub mod ProofLevels
