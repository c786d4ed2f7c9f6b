pub mod Circuit
pub mod Clauses
pub mod Growth
pub mod Laws
pub mod Rows
