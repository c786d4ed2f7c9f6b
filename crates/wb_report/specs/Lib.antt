pub mod Dialogues
pub mod Digits
pub mod Said
pub mod Verdicts
pub mod Laws
