pub mod Clause
pub mod Partial
pub mod Lawful
pub mod Verdict
pub mod Laws
pub mod Course
