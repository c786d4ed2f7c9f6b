pub mod GateLaw
pub mod Counts
pub mod Decided
pub mod Names
