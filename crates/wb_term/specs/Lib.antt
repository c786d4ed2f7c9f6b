pub mod Nodes
pub mod Terms
pub mod Inputs
pub mod Numbers
pub mod Values
pub mod Under
pub mod Growth
pub mod Laws
