pub mod Building
pub mod Slots
pub mod Statements
mod Words
