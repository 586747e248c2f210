pub mod Heads
pub mod Places
pub mod Rows
pub mod Table
