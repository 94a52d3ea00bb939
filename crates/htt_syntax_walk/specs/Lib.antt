pub mod Walk
pub mod WalkLevels
pub mod Rising
pub mod Kept
pub mod WalkProof
pub mod WalkProofLevels
pub mod Descent
