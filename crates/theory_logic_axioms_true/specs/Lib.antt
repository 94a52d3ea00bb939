pub mod WordLaws
pub mod TermLaws
pub mod Laws
pub mod WithoutConditions
