use Rattle.std.proofs.Common.{◌≡◌, ◌++◌, ◌+◌, ◌<◌, ◌^◌, drop}
use Rattle.codegen_core.specs.Variants.{slots_in, variant_arms}
use Rattle.codegen_core.proofs.variants.variant_arms.Given as goal

abbrev pub invariant-loop-variant : goal.invariant-loop-variant
invariant-loop-variant l = record {
  kept : variant_arms 0 l.variants ≡ l.arms ++ variant_arms l.slot (drop l.variant-index l.variants);
  few : l.slot + slots_in (drop l.variant-index l.variants) < 2 ^ 32;
}
