use Rattle.std.proofs.Common.{◌≡◌, ◌++◌, drop, map}
use Rattle.error_core.specs.ErrorView.{held}
use Rattle.options_meta.proofs.enum_checks.push_words.Given as goal
use Rattle.options_meta.specs.MetaChecks.{not_one_word}

abbrev pub invariant-loop-span : goal.invariant-loop-span
invariant-loop-span l = held l.errors ++ map not_one_word (drop l.span-index l.words) ≡ held l.initial.errors ++ map not_one_word l.words
