mod EscapeLemmas
pub mod KindLemmas
mod NameLemmas
mod NameSets
pub mod OutcomeLemmas
pub mod TextLemmas
