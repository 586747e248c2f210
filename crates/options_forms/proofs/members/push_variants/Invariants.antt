use Rattle.std.proofs.Common.{◌≡◌, ◌++◌, drop, flat_map}
use Rattle.options_forms.proofs.members.push_variants.Given as goal
use Rattle.options_forms.specs.Forms.{variant_forms}

abbrev pub invariant-loop-variant : goal.invariant-loop-variant
invariant-loop-variant l = l.places ++ flat_map variant_forms (drop l.variant-index l.variants) ≡ l.initial.places ++ flat_map variant_forms l.variants
