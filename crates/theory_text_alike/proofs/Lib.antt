pub mod PlainRenamed
pub mod PlainWalked
pub mod PlainUses
pub mod PlainCounts
pub mod Alike
pub mod AlikeFiles
pub mod Laws
pub mod Examples
