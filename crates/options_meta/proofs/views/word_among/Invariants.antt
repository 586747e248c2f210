use Rattle.std.proofs.Common.{◌≡◌, drop}
use Rattle.options_meta.specs.MetaViews.{worded}
use Rattle.options_meta.proofs.views.word_among.Given as goal

abbrev pub invariant-loop-variant : goal.invariant-loop-variant
invariant-loop-variant l = worded l.variants ≡ worded (drop l.variant-index l.variants)
