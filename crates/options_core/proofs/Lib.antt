pub mod PartLemmas
pub mod StageLemmas
