pub mod Renamings
pub mod Heaps
pub mod Contexts
pub mod Substitutions
pub mod Variants
pub mod VariantLaws
