pub mod NumberLemmas
pub mod FrontLemmas
pub mod ScanLemmas
pub mod OneCut
pub mod OneAnswer
