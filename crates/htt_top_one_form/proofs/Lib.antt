pub mod Lists
pub mod Operands
pub mod Claims
pub mod Endings
pub mod ReadTerms
pub mod ReadClaims
pub mod Meaning
