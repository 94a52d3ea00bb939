pub mod Renamed
pub mod RenamedTruth
pub mod Folded
pub mod Expanded
pub mod Entries
pub mod Filled
pub mod FilledTruth
