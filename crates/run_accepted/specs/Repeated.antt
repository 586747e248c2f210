-- Derives that stand twice in a list.
use Rattle.std.specs.Prelude.{Bool, if◌then◌else◌, List, [], ◌∷◌, ◌++◌}
use Rattle.std.specs.List.{list_any}
use Rattle.tok_core.specs.Tokens.{Span}
use Rattle.codegen_program.specs.Traits.{same_derive}
use Rattle.codegen_program.specs.declared.program.Derive.{Derive}
use Rattle.run_accepted.specs.declared.derives.Derived.{Derived}

-- one of these has the derive
abbrev pub has_derive : List Derived → Derive → Bool
has_derive derives derive = list_any (λ it. same_derive it.derive derive) derives

-- the spans of those that one before has, behind these earlier ones
abbrev pub repeated_behind : List Derived → List Derived → List Span
repeated_behind earlier [] = []
repeated_behind earlier (it ∷ rest) = (if has_derive earlier it.derive then it.span ∷ [] else []) ++ repeated_behind (it ∷ earlier) rest

-- the spans of those whose derive an earlier one has
abbrev pub repeated_derives : List Derived → List Span
repeated_derives derives = repeated_behind [] derives
