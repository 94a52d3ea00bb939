pub mod Column
pub mod Standing
