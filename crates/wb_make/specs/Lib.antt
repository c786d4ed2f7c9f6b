pub mod Inputs
pub mod Forms
