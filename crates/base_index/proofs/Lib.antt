pub mod Search
pub mod Sorting
