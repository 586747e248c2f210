pub mod Arguments
pub mod Heads
pub mod Items
pub mod Paths
pub mod Rows
pub mod Table
