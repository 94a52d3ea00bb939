pub mod HeadsDenote
pub mod FirstOrder
pub mod Classical
pub mod StepsAgree
pub mod Examples
