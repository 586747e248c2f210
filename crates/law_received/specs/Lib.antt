pub mod Agreement
pub mod Claims
pub mod Fields
