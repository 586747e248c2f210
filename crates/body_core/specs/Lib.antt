pub mod Calls
pub mod Data
pub mod Generics
pub mod Members
pub mod Shape
pub mod Tokens
pub mod TypeParams
pub use Rattle.error_core.specs.Each
