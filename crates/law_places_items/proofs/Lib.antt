pub mod Lists
pub mod Attributes
pub mod Visibilities
pub mod Generics
pub mod Fields
pub mod Items
pub mod Rows
pub mod Wholes
