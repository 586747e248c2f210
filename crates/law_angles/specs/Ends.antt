-- Whether the angles that turbofishes open before the end of a value close again. The value ends before the first comma that stands in no angle.
use Rattle.std.specs.Prelude.{ℕ, zero, suc, ◌*◌, Bool, true, false, ◌&&◌, not, ◌==◌, if◌then◌else◌, List, [], ◌∷◌}
use Rattle.tok_types.specs.Ascii.{colon, minus}
use Rattle.tok_types.specs.declared.tree.TokenTree.{TokenTree}
use Rattle.syn_grammar.specs.Grammar.{max_depth}
use Rattle.syn_grammar.specs.Token.{is_comma, is_greater, is_joint, is_less, is_mark}

-- how many angles may be open in each other, as many as in a type: two a level, as in `<T as A<B>>::C`
abbrev pub max_angles : ℕ
max_angles = 2 * max_depth

-- what the tokens before a place end with
pub record Before : Type 0 where
  -- a joint `:`
  pub colon : Bool
  -- `::`
  pub colons : Bool
  -- a joint `-`
  pub minus : Bool

-- at the start of a value, and behind every token but `:` and `-`
abbrev pub nothing : Before
nothing = record { colon = false; colons = false; minus = false }

-- what the tokens end with behind the one that comes next
unfoldable pub behind : Before → List TokenTree → Before
behind before trees = record {
  colon = is_joint trees && is_mark colon trees;
  colons = before.colon && is_mark colon trees;
  minus = is_joint trees && is_mark minus trees;
}

-- How many angles are open behind the token that comes next. In an expression only `::<` opens one; in an angle each `<` does, and each `>` closes one that is not an arrow's.
unfoldable pub angles_behind : Before → ℕ → List TokenTree → ℕ
angles_behind before zero trees = if before.colons && is_less trees then 1 else 0
angles_behind before (suc angles) trees =
    if is_less trees then suc (suc angles)
    else if is_greater trees && not before.minus then angles
    else suc angles

-- whether one angle more would open than may
abbrev pub too_many : ℕ → List TokenTree → Bool
too_many angles trees = angles == max_angles && is_less trees

-- whether all angles close before a comma in none of them, or before the end
abbrev pub ends : Before → ℕ → List TokenTree → Bool
ends before angles [] = angles == 0
ends before angles (tree ∷ trees) =
    if angles == 0 && is_comma (tree ∷ trees) then true
    else if too_many angles (tree ∷ trees) then false
    else ends (behind before (tree ∷ trees)) (angles_behind before angles (tree ∷ trees)) trees
