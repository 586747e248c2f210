-- The iterator over type parameters.
use Rattle.std.specs.Prelude.{List, Option}
use Rattle.std.specs.List.{filter_map}
use Rattle.std.specs.Slice.Iter.{iter_rest}
use Rattle.body_core.specs.declared.ast.generics.TypeParams.{TypeParams}

-- the type parameters that are still to come
abbrev pub types_left : {P T : Type 0} → (P → Option T) → TypeParams P → List T
types_left type_param it = filter_map type_param (iter_rest it.params)
