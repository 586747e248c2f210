use Rattle.std.proofs.Common.{◌≡◌, ◌-◌}
use Rattle.syn_grammar.specs.Input.{skipped}
use Rattle.syn_grammar.proofs.cursor.Cursor.skip_by.Given as goal

abbrev pub invariant-loop-turn : goal.invariant-loop-turn
invariant-loop-turn l = skipped l.count l.initial.self ≡ skipped (l.count - l._turn) l.self
