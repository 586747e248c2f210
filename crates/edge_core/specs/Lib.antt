pub mod Faults
pub mod Source
pub mod Sink
pub mod ReadAll
pub mod Memory
pub mod Plain
pub mod Kept
pub mod Standard
