pub mod MaskLaws
pub mod BitLaws
pub mod PartLaws
pub mod BoundLaws
