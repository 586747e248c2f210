pub use Rattle.meta_core.proofs.PlaceLemmas
