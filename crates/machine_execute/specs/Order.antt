-- Units in the order of their declarations.
use Rattle.std.specs.Prelude.{ℕ, Bool, true, ◌&&◌, leb, List, [], ◌∷◌, get_or, map}
use Rattle.codegen_program.specs.declared.program.«Unit».{«Unit» as Unit'}

-- the numbers of the units' declarations
abbrev pub numbers : List Unit' → List ℕ
numbers units = map (λ unit. unit.decl) units

-- the number of the declaration of the unit at a place
abbrev pub number_at : List Unit' → ℕ → ℕ
number_at units at = get_or (numbers units) at 0

-- no number is less than this one or one before it
abbrev pub rises_from : ℕ → List ℕ → Bool
rises_from last [] = true
rises_from last (number ∷ more) = leb last number && rises_from number more

-- the units stand in the order of their declarations
abbrev pub are_in_order : List Unit' → Bool
are_in_order units = rises_from 0 (numbers units)
