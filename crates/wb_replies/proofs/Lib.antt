pub mod Growth
pub mod Lists
pub mod Gathered
pub mod Kept
pub mod Shown
