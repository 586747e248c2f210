pub mod Deciding
pub mod Leaves
pub mod Tokens
mod Sures
mod Bounds
pub mod PathArguments
pub mod Arguments
pub mod Paths
pub mod Types
pub mod Exprs
pub mod Nodes
mod Parts
