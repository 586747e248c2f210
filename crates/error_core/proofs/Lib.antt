pub mod ToldLemmas
pub mod AnswersLemmas
pub mod TokenLemmas
pub mod PreorderLemmas
pub mod RootsLemmas
pub mod WalkLemmas
pub mod WrittenLemmas
pub mod SplitLemmas
pub mod WiderLemmas
mod SiblingLemmas
