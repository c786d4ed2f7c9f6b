pub mod Stands
pub mod Masks
pub mod Bits
pub mod Sources
