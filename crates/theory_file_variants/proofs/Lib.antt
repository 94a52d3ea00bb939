pub mod Missed
