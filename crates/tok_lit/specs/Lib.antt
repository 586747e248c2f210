pub mod Numbers
pub mod Quoted
pub mod Reading
pub mod Values
