pub mod Quantifiers
