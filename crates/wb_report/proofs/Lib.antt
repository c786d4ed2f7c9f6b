pub mod Lines
pub mod Lists
pub mod Moments
pub mod Fronts
pub mod Sole
