pub mod Forest
pub mod Values
pub mod Growth
pub mod Choices
pub mod Paths
pub mod Sizes
