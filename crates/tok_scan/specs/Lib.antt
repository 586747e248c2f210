pub mod Characters
pub mod Comments
pub mod Escapes
pub mod Strings
pub mod Numbers
pub mod Pieces
pub mod Scan
pub mod Closings
