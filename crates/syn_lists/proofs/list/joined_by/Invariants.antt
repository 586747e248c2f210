use Rattle.std.proofs.Common.{◌-◌, []}
use Rattle.syn_grammar.specs.Input.{joined_from}
use Rattle.syn_lists.specs.Lists.{Keeps, eat_joint}
use Rattle.syn_lists.proofs.list.joined_by.Given as goal

abbrev pub invariant-loop-turn : goal.invariant-loop-turn
invariant-loop-turn g l = Keeps g.P.ReadItem.reader g.P.ReadItem.ready g.P.ReadItem.knows (joined_from (eat_joint l.joint)) [] l.fn.item l.fn.tokens l._turn-end (l._turn-end - l._turn) l.found l.item l.tokens
