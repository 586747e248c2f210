pub mod EachLemmas
pub mod UnsetLemmas
pub mod ViewLemmas
