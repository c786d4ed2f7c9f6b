pub mod Sound
pub mod Statuses
pub mod Runs
pub mod Numbers
pub mod Judging
