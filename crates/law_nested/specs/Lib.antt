pub mod ErasedErrors
pub mod Places
pub mod OneText
pub mod Erased
pub mod StaysBad
