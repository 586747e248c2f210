pub mod Texts
pub mod Fields
pub mod Faults
pub mod Attributes
pub mod Verbosity
pub mod Lint
