pub mod Words
pub mod Keywords
pub mod Numbers
pub mod Signs
pub mod Lexemes
