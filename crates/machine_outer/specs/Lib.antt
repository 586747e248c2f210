pub mod Seen
pub mod Weaving
