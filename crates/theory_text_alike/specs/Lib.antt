pub mod Alike
pub mod Agreeing
pub mod AlikeFiles
pub mod Laws
pub mod Examples
