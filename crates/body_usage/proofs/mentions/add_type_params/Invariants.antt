use Rattle.std.proofs.Common.{map, take}
use Rattle.tok_types.specs.contracts.ident.IdentPartialEq.TheImpl as ident_eq
use Rattle.body_usage.specs.Mentions.{seen}
use Rattle.body_usage.specs.Occurs.{type_param_occurs}
use Rattle.body_usage.specs.Selected.{IsExtended, shown}
use Rattle.body_usage.proofs.mentions.add_type_params.Given as goal

abbrev pub invariant-loop-found : goal.invariant-loop-found
invariant-loop-found l =
    IsExtended ident_eq.ghosts.eq l.type_set (type_param_occurs l.options (map seen (take l.found-index l.list))) (shown l.initial.answer.keys) (shown l.answer.keys)
