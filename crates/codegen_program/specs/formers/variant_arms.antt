pub mod VariantArms
