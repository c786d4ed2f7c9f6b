pub mod Addresses
pub mod Lists
pub mod OneAnswer
pub mod Follow
pub mod Reading
pub mod Texts
pub mod Undoing
