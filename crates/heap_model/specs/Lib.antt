pub mod Views
pub mod Levels
pub mod ValueText
pub mod Fronts
pub mod Examples
