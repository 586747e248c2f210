pub mod Defaults
pub mod Fields
pub mod Variants
pub mod Forms
pub mod Compiled
