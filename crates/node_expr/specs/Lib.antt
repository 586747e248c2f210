pub mod Folds
pub mod Kinds
pub mod Layers
pub mod PathIdent
