pub mod Bytes
pub mod Worlds
pub mod Boards
pub mod Names
pub mod Growing
pub mod Equal
