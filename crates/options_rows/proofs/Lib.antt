pub mod ReadLemmas
pub mod WalkLemmas
pub mod HandleLemmas
pub mod PrefixLemmas
