pub mod Values
pub mod Fitting
