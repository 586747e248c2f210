pub mod ReadsParts
pub mod Postfixes
