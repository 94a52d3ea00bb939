pub mod Words
pub mod Code
pub mod Stages
pub mod Due
pub mod Answers
pub mod Views
pub mod Laws
