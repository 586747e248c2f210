pub mod Forwarding
pub mod Parts
pub mod Shapes
pub mod Outer
pub mod CompiledOuter
pub mod Bare
pub mod BareLaws
