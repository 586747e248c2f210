use Rattle.std.proofs.Common.{◌≡◌, ◌++◌, drop, flat_map}
use Rattle.machine_forms.specs.Forms.{generated_variant}
use Rattle.machine_forms.proofs.forms.push_variants.Given as goal

abbrev pub invariant-loop-variant : goal.invariant-loop-variant
invariant-loop-variant l = l.initial.places ++ flat_map generated_variant l.variants ≡ l.places ++ flat_map generated_variant (drop l.variant-index l.variants)
