pub mod Flags
pub mod Ram
pub mod Pages
