pub mod Attributes
mod Generics
mod Items
