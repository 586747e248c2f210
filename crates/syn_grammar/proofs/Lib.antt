pub mod Keywords
pub mod Turns
pub mod Literals
pub mod Deepest
pub mod Depths
pub mod MadeDepths
