pub mod Filters
pub mod Sorted
