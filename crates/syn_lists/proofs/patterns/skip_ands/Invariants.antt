use Rattle.std.proofs.Common.{◌≡◌, ◌-◌}
use Rattle.syn_grammar.specs.Patterns.{skip_ands, ands_from}
use Rattle.syn_lists.proofs.patterns.skip_ands.Given as goal

abbrev pub invariant-loop-turn : goal.invariant-loop-turn
invariant-loop-turn l = skip_ands l.fn.tokens ≡ ands_from (l._turn-end - l._turn) l.tokens
