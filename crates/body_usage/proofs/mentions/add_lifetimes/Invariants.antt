use Rattle.std.proofs.Common.{map, take}
use Rattle.tok_types.specs.contracts.ident.LifetimePartialEq.TheImpl as lifetime_eq
use Rattle.body_usage.specs.Mentions.{seen}
use Rattle.body_usage.specs.Occurs.{lifetime_occurs}
use Rattle.body_usage.specs.Selected.{IsExtended, shown}
use Rattle.body_usage.proofs.mentions.add_lifetimes.Given as goal

abbrev pub invariant-loop-found : goal.invariant-loop-found
invariant-loop-found l =
    IsExtended lifetime_eq.ghosts.eq l.lifetimes (lifetime_occurs l.options (map seen (take l.found-index l.list))) (shown l.initial.answer.keys) (shown l.answer.keys)
