pub mod Vectors
pub mod Operations
pub mod Sums
