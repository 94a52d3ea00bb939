pub mod Results
pub mod Placing
pub mod Terms
pub mod Formulas
