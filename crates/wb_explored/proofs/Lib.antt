pub mod Shorter
pub mod Rooms
pub mod Stages
