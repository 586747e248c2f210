pub mod MoreFaults
pub mod Claims
