pub mod Listing
pub mod Places
pub mod Laws
pub mod Table
pub mod Spans
pub mod Blocks
