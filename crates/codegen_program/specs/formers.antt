pub mod variant_arms
