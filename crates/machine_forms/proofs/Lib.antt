pub mod Groups
pub mod Known
pub mod Steps
pub mod Variants
