pub mod Erased
pub mod IgnoresSpans
pub mod Kinds
