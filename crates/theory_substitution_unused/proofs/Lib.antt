pub mod Back
pub mod FilledBack
