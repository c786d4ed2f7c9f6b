pub mod Words
pub mod Bits
pub mod Moves
pub mod Looks
pub mod Carries
