pub mod Views
pub mod Slots
pub mod Widths
pub mod Answers
