pub mod FieldCodes
pub mod SameNumbers
pub mod CondCodes
pub mod Inverse
