pub mod Chart
pub mod Rounds
