pub mod Shows
pub mod Lists
pub mod Merging
pub mod Dialogues
pub mod Holds
pub mod Says
pub mod Laws
