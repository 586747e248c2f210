use Rattle.std.proofs.Common.{◌-◌, []}
use Rattle.syn_lists.specs.Lists.{Keeps}
use Rattle.syn_items.specs.Lists.{goes_on, while_from}
use Rattle.syn_items.proofs.lists.each_while.Given as goal

abbrev pub invariant-loop-turn : goal.invariant-loop-turn
invariant-loop-turn g l = Keeps g.P.ReadItem.reader g.P.ReadItem.ready g.P.ReadItem.knows (while_from (goes_on l.which)) [] l.fn.item l.fn.tokens l._turn-end (l._turn-end - l._turn) l.found l.item l.tokens
