pub mod Plain
pub mod PlainTruth
