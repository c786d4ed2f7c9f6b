pub mod Circuits
pub mod Gathering
pub mod Differences
pub mod Laws
