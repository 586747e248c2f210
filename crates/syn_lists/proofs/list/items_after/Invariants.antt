use Rattle.std.proofs.Common.{◌-◌}
use Rattle.syn_grammar.specs.Input.{items_from}
use Rattle.syn_lists.specs.Lists.{Keeps}
use Rattle.syn_lists.proofs.list.items_after.Given as goal

abbrev pub invariant-loop-turn : goal.invariant-loop-turn
invariant-loop-turn g l = Keeps g.P.ReadItem.reader g.P.ReadItem.ready g.P.ReadItem.knows items_from l.fn.found l.fn.item l.fn.tokens l._turn-end (l._turn-end - l._turn) l.found l.item l.tokens
