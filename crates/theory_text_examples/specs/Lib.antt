pub mod Short
pub mod Texts
pub mod Examples
pub mod LimitExamples
