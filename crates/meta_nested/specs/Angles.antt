-- Whether the angles of a value close, for all places and for all values of a list.
use Rattle.std.specs.Prelude.{◌≡◌, ℕ, zero, suc, ◌≤◌, Bool, true, false, ◌&&◌, not, if◌then◌else◌, List, [], ◌∷◌, ◌++◌, length, Some, slice_get, slice_index_or}
use Rattle.tok_types.specs.declared.tree.TokenTree.{TokenTree}
use Rattle.syn_grammar.specs.Token.{is_comma, is_equals, is_greater, is_less}
use Rattle.law_angles.specs.Ends.{Before, nothing, behind, ends, max_angles}
use Rattle.meta_nested.specs.declared.angles.Role.{Role}
use Rattle.meta_nested.specs.declared.angles.Role.TheVariants as role
use Rattle.meta_nested.specs.declared.angles.Row.{Row}

-- what the tokens end with behind so many of them
abbrev pub before_at : Before → ℕ → List TokenTree → Before
before_at before zero trees = before
before_at before (suc count) [] = before
before_at before (suc count) (tree ∷ trees) = before_at (behind before (tree ∷ trees)) count trees

-- what the token that comes next is to the angles round it
abbrev pub role_of : Before → List TokenTree → Role
role_of before trees =
    if is_comma trees then role.Comma
    else if is_less trees then (if before.colons then role.Turbofish else role.Less)
    else if is_greater trees && not before.minus then role.Greater
    else role.Other

-- The row says at a place, for each number of angles that may be open there, whether they close.
pub record RowTells (before : Before) (trees : List TokenTree) (row : Row) : Type 0 where
  pub fits : length row.some ≤ max_angles
  pub each : (angles : ℕ) → angles ≤ max_angles → slice_index_or (row.none ∷ row.some) angles false ≡ ends before angles trees

-- whether the angles of the value close, at the number of tokens that are left at its start
abbrev pub TellsHere : List Bool → List TokenTree → Type 0
TellsHere table value = slice_get table (length value) ≡ Some (ends nothing 0 value)

-- The table tells it of each value in the list, which stands behind a `=`.
pub record Tells (table : List Bool) (trees : List TokenTree) : Type 0 where
  pub each : (front value : List TokenTree) (equals : TokenTree) → trees ≡ front ++ equals ∷ value → is_equals (equals ∷ value) ≡ true → TellsHere table value
