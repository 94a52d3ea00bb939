pub mod Main
pub mod Sound
pub mod Worked
