use Rattle.std.proofs.Common.{◌≡◌, ◌++◌, drop}
use Rattle.codegen_core.specs.Variants.{unit_arms}
use Rattle.codegen_core.proofs.variants.unit_arms.Given as goal

abbrev pub invariant-loop-variant : goal.invariant-loop-variant
invariant-loop-variant l = unit_arms l.variants ≡ l.arms ++ unit_arms (drop l.variant-index l.variants)
