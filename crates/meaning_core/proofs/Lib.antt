pub mod Filters
pub mod Clean
pub mod Owned
pub mod Alone
