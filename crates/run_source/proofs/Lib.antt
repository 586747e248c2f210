pub mod PartLemmas
pub mod FitLemmas
pub mod ReceiverLemmas
pub mod RunLemmas
pub mod SourceLemmas
