pub mod BitLaws
pub mod Growth
pub mod Moves
