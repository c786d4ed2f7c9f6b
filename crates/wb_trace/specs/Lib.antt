pub mod Moves
pub mod Standing
pub mod Texts
pub mod Trace
pub mod Laws
