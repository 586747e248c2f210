pub mod Lists
pub mod Attributes
pub mod Visibility
pub mod Generics
pub mod Fields
pub mod Items
pub mod Trees
