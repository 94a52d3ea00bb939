pub mod Made
pub mod PastMaps
pub mod EndMaps
