pub mod Kind
pub mod Fault
pub mod Faults
pub mod Outcome
pub mod FaultText
