pub mod Sorting
pub mod Names
