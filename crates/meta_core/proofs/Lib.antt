mod Moved
pub mod SetLemmas
mod Stored
pub mod TableLemmas
pub use Rattle.meta_nested.proofs.PlaceLemmas
