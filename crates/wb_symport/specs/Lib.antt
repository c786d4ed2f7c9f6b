pub mod Transfer
pub mod After
