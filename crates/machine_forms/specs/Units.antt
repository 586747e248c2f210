-- The units of a declaration.
use Rattle.std.specs.Prelude.{◌≡◌, ◌<◌, ◌+◌, ℕ, Bool, false, cond, ◌==◌, ◌&&◌, ◌||◌, List, [], ◌∷◌, ◌++◌, length, get_or, map, filter, slice_get, Option, Some, None}
use Rattle.std.specs.Borrow.{Bor}
use Rattle.std.specs.List.{list_any}
pub use Rattle.codegen_program.specs.Traits.{is_from_meta, is_input, same_derive}
use Rattle.codegen_program.specs.declared.program.Derive.{Derive}
use Rattle.codegen_program.specs.declared.program.Program.{Program}
use Rattle.codegen_program.specs.declared.program.«Unit».{«Unit» as Unit'}
use Rattle.node_core.specs.declared.derive.DeriveInput.{DeriveInput}
use Rattle.machine_forms.specs.Asks.{Ask, joined, unit_asks}

abbrev pub is_of : ℕ → Unit' → Bool
is_of number unit = unit.decl == number

-- the units of the declaration of this number, in order
abbrev pub units_of : List Unit' → ℕ → List Unit'
units_of units number = filter (is_of number) units

-- what they ask
abbrev pub asks_of : List Unit' → List Ask
asks_of units = joined (map unit_asks units)

-- which declarations items are read as, from this number on
abbrev pub flags_from : List Unit' → ℕ → List DeriveInput → List Bool
flags_from units number [] = []
flags_from units number (decl ∷ decls) = list_any (λ unit. is_from_meta unit.derive) (units_of units number) ∷ flags_from units (number + 1) decls

abbrev pub item_flags : Program → List Bool
item_flags program = flags_from program.units 0 program.decls

abbrev pub flag_at : Option Bool → Bool
flag_at None = false
flag_at (Some flag) = flag

-- items are read as the declaration of this number
abbrev pub is_item : Program → ℕ → Bool
is_item program number = flag_at (slice_get (item_flags program) number)

-- items of a text are read as the declaration of this number
abbrev pub is_receiver : List Unit' → ℕ → Bool
is_receiver units number = list_any (λ unit. is_of number unit && is_input unit.derive) units

-- one of the units is of the derive
abbrev pub has_derive : Derive → List Unit' → Bool
has_derive derive units = list_any (λ unit. same_derive unit.derive derive) units

-- two of the units are of one derive
abbrev pub has_twins : List Unit' → Bool
has_twins [] = false
has_twins (unit ∷ units) = has_derive unit.derive units || has_twins units

-- ---- units by the numbers of their declarations

-- the units that are held for a number
abbrev pub group_at : List (List (Bor Unit')) → ℕ → List Unit'
group_at groups number = map (λ unit. unit.now) (get_or groups number [])

-- the units of so many declarations
pub record AreGroups (units : List Unit') (count : ℕ) (groups : List (List (Bor Unit'))) : Type 0 where
  pub counted : length groups ≡ count
  pub each : (number : ℕ) → number < count → group_at groups number ≡ units_of units number

-- a unit is held for its number, where that is one
pub record Adds (old new : List (List (Bor Unit'))) (unit : Unit') : Type 0 where
  pub counted : length new ≡ length old
  pub each : (number : ℕ) → number < length old → group_at new number ≡ group_at old number ++ cond (is_of number unit) (unit ∷ []) []
