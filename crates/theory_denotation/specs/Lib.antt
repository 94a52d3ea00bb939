pub mod Outcomes
pub mod Valuations
pub mod Recursion
pub mod Denotation
pub mod Satisfaction
pub mod Valued
pub mod Laws
pub mod Examples
