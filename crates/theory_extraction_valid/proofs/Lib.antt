pub mod Within
pub mod Valid
