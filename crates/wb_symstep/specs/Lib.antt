pub mod State
pub mod Stepped
pub mod Laws
pub mod Parts
pub mod Assembled
pub mod Tested
pub mod Starts
