pub mod Trees
pub mod MonoViews
pub mod MonoLevels
pub mod TreeViews
pub mod TreeLevels
pub mod ProofViews
pub mod ProofLevels
pub mod DeclViews
