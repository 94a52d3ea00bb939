pub mod Rows
pub mod Places
pub mod OneClaim
pub mod Open
