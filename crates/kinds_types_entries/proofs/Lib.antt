pub mod Standing
pub mod MonotypeLevels
pub mod Listed
