use Rattle.std.proofs.Common.{◌≡◌, map, drop}
use Rattle.syn_grammar.specs.Words.{looked_up}
use Rattle.syn_grammar.proofs.word.looked_up.Given as goal

abbrev pub invariant-loop-row : goal.invariant-loop-row
invariant-loop-row l =
    looked_up (map (λ row. (row.0.now, row.1)) (drop l.row-index l.rows)) l.name
    ≡ looked_up (map (λ row. (row.0.now, row.1)) l.rows) l.name
