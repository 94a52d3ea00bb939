pub mod Arguments
pub mod Fitting
pub mod Bodies
pub mod Unfolded
