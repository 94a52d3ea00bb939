pub mod MoreHeads
pub mod Lists
pub mod Derived
pub mod MorePhrases
pub mod Defined
pub mod Worked
