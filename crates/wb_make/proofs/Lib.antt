pub mod WordLaws
pub mod MaskLaws
pub mod ShiftLaws
pub mod SumLaws
pub mod TruthLaws
