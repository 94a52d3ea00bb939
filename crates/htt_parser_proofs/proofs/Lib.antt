pub mod Chains
pub mod Further
pub mod Lists
pub mod ProofSteps
