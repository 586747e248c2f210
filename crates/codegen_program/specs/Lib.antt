pub mod Traits
pub mod Callables
pub mod Named
pub mod MagicFields
pub mod VariantParts
pub mod formers
