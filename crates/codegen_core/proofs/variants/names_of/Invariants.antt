use Rattle.std.proofs.Common.{◌≡◌, ◌++◌, drop}
use Rattle.codegen_core.specs.Variants.{variant_names}
use Rattle.codegen_core.proofs.variants.names_of.Given as goal

abbrev pub invariant-loop-variant : goal.invariant-loop-variant
invariant-loop-variant l = variant_names l.variants ≡ l.names ++ variant_names (drop l.variant-index l.variants)
