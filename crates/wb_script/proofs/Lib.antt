pub mod FieldLemmas
pub mod LineLemmas
pub mod FrontLemmas
pub mod AnswerLemmas
pub mod ReadLemmas
pub mod CopyLemmas
