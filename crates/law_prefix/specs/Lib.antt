pub mod SameLookahead
pub mod ReadsByPrefix
pub mod Closures
