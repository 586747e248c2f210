pub mod Content
pub mod Escapes
pub mod Strings
pub mod Numbers
pub mod Literals
