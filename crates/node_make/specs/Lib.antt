pub mod Make
pub mod PathText
