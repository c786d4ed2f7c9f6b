pub mod Digits
pub mod Line
pub mod Listing
pub mod Steps
