pub mod Erased
pub mod IsEqualErased
