-- Where the rows of a table stand, as the look-ups find them.
use Rattle.std.specs.Prelude.{◌≡◌, ◌<◌, ◌^◌, ◌&&◌, ℕ, Bool, List, if◌then◌else◌, Option, Some, None, String, option_map, option_and_then, position, length}
use Rattle.std.specs.BTreeMap.{BTreeMap, get_by_text}
use Rattle.std.specs.Option.{option_or}
use Rattle.std.specs.declared.alloc.Global.{Global}
use Rattle.util_table.specs.Table.{has_rule, is_for}
use Rattle.util_table.specs.declared.places.RulePlaces.{RulePlaces}
use Rattle.util_table.specs.declared.row.RenameKind.{RenameKind}
use Rattle.util_table.specs.declared.row.RenameKind.TheVariants.{Field, Variant}
use Rattle.util_table.specs.declared.row.Row.{Row}

-- the place that was found, or else this one where a row that stands there passes
abbrev pub or_at : Option ℕ → Bool → ℕ → Option ℕ
or_at found passes at = option_or found (if passes then Some at else None)

-- the place for a kind and an identifier among those of a rule
abbrev pub place_in : RulePlaces → RenameKind → List ℕ → Option ℕ
place_in places Field identifier = get_by_text places.fields identifier
place_in places Variant identifier = get_by_text places.variants identifier

-- the places of a rule's rows by the rule
abbrev pub Places : Type 0
Places = BTreeMap (String Global) RulePlaces

-- the place of the rule's first row
abbrev pub first_of : Places → List ℕ → Option ℕ
first_of places rule = option_map (λ of_rule. of_rule.first) (get_by_text places rule)

-- the place of the rule's first row for a kind and an identifier
abbrev pub place_of : Places → List ℕ → RenameKind → List ℕ → Option ℕ
place_of places rule kind identifier = option_and_then (λ of_rule. place_in of_rule kind identifier) (get_by_text places rule)

-- the places have those of one more row
pub record AddsRow (old new : Places) (row : Row) (at : ℕ) : Type 0 where
  pub first : (rule : List ℕ) → first_of new rule ≡ or_at (first_of old rule) (has_rule rule row) at
  pub rest : (rule : List ℕ) (kind : RenameKind) (identifier : List ℕ)
      → place_of new rule kind identifier ≡ or_at (place_of old rule kind identifier) (has_rule rule row && is_for kind identifier row) at

-- the places are those of these rows, and of no others
pub record ArePlaces (places : Places) (rows : List Row) : Type 0 where
  pub first : (rule : List ℕ) → first_of places rule ≡ position (has_rule rule) rows
  pub rest : (rule : List ℕ) (kind : RenameKind) (identifier : List ℕ)
      → place_of places rule kind identifier ≡ position (λ row. has_rule rule row && is_for kind identifier row) rows

-- the places are those of these rows, of which there are no more than a place can count
pub record IsTable (places : Places) (rows : List Row) : Type 0 where
  pub placed : ArePlaces places rows
  pub count : length rows < 2 ^ 32
