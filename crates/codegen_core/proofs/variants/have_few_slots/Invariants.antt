use Rattle.std.proofs.Common.{◌≡◌, ◌+◌, drop}
use Rattle.codegen_core.specs.Variants.{slots_in}
use Rattle.codegen_core.proofs.variants.have_few_slots.Given as goal

abbrev pub invariant-loop-variant : goal.invariant-loop-variant
invariant-loop-variant l = l.room + slots_in l.variants ≡ 4294967295 + slots_in (drop l.variant-index l.variants)
