pub mod Finds
pub mod Literals
pub mod Exprs
pub mod Items
pub mod Values
pub mod Elements
