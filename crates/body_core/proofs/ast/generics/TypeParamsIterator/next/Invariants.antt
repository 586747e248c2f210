use Rattle.std.proofs.Common.{◌≡◌, length}
use Rattle.std.specs.Slice.Iter.{iter_rest}
use Rattle.body_core.specs.TypeParams.{types_left}
use Rattle.body_core.proofs.ast.generics.TypeParamsIterator.next.Given as goal

abbrev pub invariant-loop-param : goal.invariant-loop-param
invariant-loop-param g l = types_left g.P.GenericParamExt.type_param l.self ≡ types_left g.P.GenericParamExt.type_param l.initial.self

abbrev pub decreases-loop-param : goal.decreases-loop-param
decreases-loop-param g l = length (iter_rest l.self.params)
