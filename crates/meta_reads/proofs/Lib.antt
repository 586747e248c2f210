pub mod Read
pub mod Characters
pub mod Faults
pub mod Numerals
pub mod EntryLemmas
pub mod MapLemmas
