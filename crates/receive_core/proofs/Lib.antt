pub mod ErrorLemmas
pub mod SeenLemmas
pub mod SlotLemmas
pub mod ClearLemmas
pub mod MeaningLemmas
