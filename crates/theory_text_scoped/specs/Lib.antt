pub mod Sorted
pub mod Scopes
pub mod Items
pub mod SortedProofs
pub mod Laws
