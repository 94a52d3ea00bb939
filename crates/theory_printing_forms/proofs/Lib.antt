pub mod Meets
pub mod Forms
pub mod Leaves
pub mod Chains
