pub mod Division
pub mod Lines
pub mod Scan
