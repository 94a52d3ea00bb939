pub mod Items
pub mod Declarations
pub mod Limits
pub mod Resolving
