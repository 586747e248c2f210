use Rattle.std.proofs.Common.{◌-◌, []}
use Rattle.syn_grammar.specs.Input.{until_from}
use Rattle.syn_lists.specs.Lists.{Keeps}
use Rattle.syn_lists.proofs.list.until.Given as goal

abbrev pub invariant-loop-turn : goal.invariant-loop-turn
invariant-loop-turn g l = Keeps g.P.ReadItem.reader g.P.ReadItem.ready g.P.ReadItem.knows (until_from l.closing) [] l.fn.item l.fn.tokens l._turn-end (l._turn-end - l._turn) l.found l.item l.tokens
