use Rattle.std.proofs.Common.{◌≡◌, drop}
use Rattle.machine_steps.specs.Words as words
use Rattle.machine_steps.proofs.word.variant_of.Given as goal

abbrev pub invariant-loop-variant : goal.invariant-loop-variant
invariant-loop-variant l = words.variant_of l.word (drop l.variant-index l.variants) ≡ words.variant_of l.word l.variants
