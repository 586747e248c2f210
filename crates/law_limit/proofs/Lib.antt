pub mod Atoms
pub mod Operators
pub mod Paths
pub mod Postfixes
pub mod Steps
pub mod Types
pub mod Within
