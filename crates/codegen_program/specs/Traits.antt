-- The traits that are derived, told apart.
use Rattle.std.specs.Prelude.{ℕ, Bool, true, false, ◌==◌}
use Rattle.codegen_program.specs.declared.program.Derive.{Derive}
use Rattle.codegen_program.specs.declared.program.Derive.TheVariants as derive

-- the derive's number among the six
abbrev pub index_of : Derive → ℕ
index_of derive.FromMeta = 0
index_of derive.FromAttributes = 1
index_of derive.FromDeriveInput = 2
index_of derive.FromField = 3
index_of derive.FromTypeParam = 4
index_of derive.FromVariant = 5

abbrev pub same_derive : Derive → Derive → Bool
same_derive one other = index_of one == index_of other

-- items of lists are read under it
abbrev pub is_from_meta : Derive → Bool
is_from_meta derive.FromMeta = true
is_from_meta _ = false

-- items of a text are read under it
abbrev pub is_input : Derive → Bool
is_input derive.FromDeriveInput = true
is_input _ = false
