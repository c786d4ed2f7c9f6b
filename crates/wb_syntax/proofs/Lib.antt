pub mod Spellings
pub mod Chains
pub mod Readings
pub mod OneClause
pub mod Cuts
pub mod Operands
pub mod Lines
pub mod OneStatement
