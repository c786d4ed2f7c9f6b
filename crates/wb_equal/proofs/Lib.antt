pub mod Meanings
pub mod Gates
pub mod Boards
