use Rattle.std.proofs.Common.{◌≡◌, ◌++◌, drop}
use Rattle.options_meta.proofs.enum_checks.word_spans.Given as goal
use Rattle.options_meta.specs.MetaChecks.{word_spans}

abbrev pub invariant-loop-variant : goal.invariant-loop-variant
invariant-loop-variant l = l.spans ++ word_spans (drop l.variant-index l.variants) ≡ word_spans l.variants
