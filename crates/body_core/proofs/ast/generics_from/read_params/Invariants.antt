use Rattle.std.proofs.Common.{◌≡◌, map, drop}
use Rattle.error_core.specs.Each.{behind, each}
use Rattle.body_core.proofs.ast.generics_from.read_params.Given as goal

abbrev pub invariant-loop-param : goal.invariant-loop-param
invariant-loop-param g l =
    each g.P.FromGenericParam.meaning l.params
    ≡ behind (map g.P.FromGenericParam.seen l.read) (each g.P.FromGenericParam.meaning (drop l.param-index l.params))
