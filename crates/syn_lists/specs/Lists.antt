-- Lists whose items are read one by one.
use Rattle.std.specs.Prelude.{◌≡◌, ◌≤◌, ℕ, Bool, List, map}
use Rattle.syn_grammar.specs.Depth.{deepest}
use Rattle.syn_grammar.specs.Input.{Input, Parser, eat}
use Rattle.syn_grammar.specs.Token.{is_colons, is_plus}
use Rattle.syn_lists.specs.declared.list.Joint.{Joint}
use Rattle.syn_lists.specs.declared.list.Joint.TheVariants as joint

-- How deep the deepest of a list is.
abbrev pub all_depth : {A : Type 0} → (A → ℕ) → List A → ℕ
all_depth size found = deepest (map size found)

-- What a loop keeps: the whole list is what is left of it behind the items so far; the reader of an item reads as at first, may read, and knows what it did.
pub record Keeps {A R : Type 0} (parser : R → Parser A) (may_read : R → Type 0) (known : R → R → List A → Type 0) (loop : Parser A → ℕ → List A → Parser (List A))
    (first : List A) (begun : R) (start : Input) (turns : ℕ) (left : ℕ) (found : List A) (item : R) (now : Input) : Type 0 where
  pub list : loop (parser begun) turns first start ≡ loop (parser begun) left found now
  pub same : parser item ≡ parser begun
  pub ready : may_read item
  pub knows : known begun begun first → known begun item found

-- The reader of the items is the one at first, and the depth is that of the deepest of them, within its limit.
pub record CountsDepth {A R : Type 0} (size : R → A → ℕ) (limit : R → ℕ) (begun reader : R) (depth : ℕ) (found : List A) : Type 0 where
  pub same : reader ≡ begun
  pub counted : depth ≡ all_depth (size begun) found
  pub within : depth ≤ limit begun

-- takes the mark, if it comes next
abbrev pub eat_joint : Joint → Parser Bool
eat_joint joint.Plus = eat 1 is_plus
eat_joint joint.Colons = eat 2 is_colons
