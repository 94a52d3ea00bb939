pub mod Tables
pub mod Tokens
pub mod Pieces
pub mod Refusals
pub mod Laws
pub mod Examples
