mod Counting
mod Deciding
mod Demos
mod Holding
mod Once
mod Telling
mod Valid
pub mod Checked
