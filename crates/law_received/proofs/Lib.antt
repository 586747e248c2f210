pub mod Fields
pub mod Owners
pub mod Received
