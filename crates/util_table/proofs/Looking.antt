-- A row, looked up by its place, and a rule by its number.
use Rattle.std.proofs.Common.{◌≡◌, ℕ, ◌+◌, Bool, true, false, cond, ◌&&◌, List, [], ◌∷◌, Option, Some, None, option_map, option_and_then, unwrap_or, slice_get, get_or, find, position, refl, ap, sym, ◌∙◌}
use Rattle.std.specs.List.{position_from}
use Rattle.std.proofs.lemmas.Iterator.Adapters.{position_from-zero}
use Rattle.std.proofs.lemmas.List.Quantifiers.{position-Some}
use Rattle.std.proofs.lemmas.Option.{slice_get-get_or}
use Rattle.std.proofs.lemmas.Slice.Eq.{bytes_eq-Decides}
use Rattle.util_table.specs.Places.{Places, ArePlaces, place_of}
use Rattle.util_table.specs.Table.{has_rule, is_for, name_by, renamed, row_for, rule_at, rule_of}
use Rattle.util_table.specs.declared.row.RenameKind.{RenameKind}
use Rattle.util_table.specs.declared.row.RenameKind.TheVariants.{Field}
use Rattle.util_table.specs.declared.row.Row.{Row}
use Rattle.util_table.specs.declared.rule.RenameRule.TheVariants.{Keep, Named}
use Rattle.util_table.proofs.FirstPlaces.{find_by_position}

-- the first row for a kind and an identifier, by the rule of the row with this number, stands at its place
pub row_for-place : (places : Places) (rows : List Row) → ArePlaces places rows → (number : ℕ) (row : Row) → slice_get rows number ≡ Some row
    → (kind : RenameKind) (identifier : List ℕ)
    → option_and_then (λ rule. row_for rows rule kind identifier) (rule_at rows number) ≡ option_and_then (slice_get rows) (place_of places row.rule kind identifier)
row_for-place places rows are number row is kind identifier =
    ap (λ it. option_and_then (λ rule. row_for rows rule kind identifier) (option_map (λ it. it.rule) it)) is
    ∙ find_by_position (λ it. has_rule row.rule it && is_for kind identifier it) rows
    ∙ ap (option_and_then (slice_get rows)) (sym (are.rest row.rule kind identifier))

-- where no row passes one test, none passes both
find_none : {X : Type 0} (test other : X → Bool) (i : ℕ) (xs : List X) → position_from test i xs ≡ None → find (λ x. test x && other x) xs ≡ None
find_none test other i [] none = refl
find_none test other i (x ∷ xs) none =
    (elim (test x) as (λ b. cond b (Some i) (position_from test (i + 1) xs) ≡ None → cond (b && other x) (Some x) (find (λ y. test y && other y) xs) ≡ None) [
      | true ↦ λ e. cc
      | false ↦ λ e. find_none test other (i + 1) xs e
    ]) none

-- the number of a rule is that of a row that has it
rule_at-first : (rows : List Row) (rule : List ℕ) (number : ℕ) → position (has_rule rule) rows ≡ Some number → rule_at rows number ≡ Some rule
rule_at-first rows rule number is =
    let other : Row = record { rule = []; kind = Field; identifier = []; name = [] } in
    let at = position-Some (has_rule rule) rows number other is in
    ap (option_map (λ row. row.rule)) (slice_get-get_or rows number other at.0)
    ∙ ap Some ((bytes_eq-Decides (get_or rows number other).rule rule).0 at.1)

-- a rule, looked up by its text, gives the names of its rows
pub renamed-rule_of : (rows : List Row) (rule : List ℕ) (kind : RenameKind) (identifier : List ℕ)
    → renamed rows (unwrap_or (rule_of rows rule) Keep) kind identifier ≡ name_by rows rule kind identifier
renamed-rule_of rows rule kind identifier = by (position (has_rule rule) rows) refl
  where
    by : (at : Option ℕ) → position (has_rule rule) rows ≡ at
        → renamed rows (unwrap_or (option_map Named at) Keep) kind identifier ≡ name_by rows rule kind identifier
    by None e =
        ap (λ it. unwrap_or (option_map (λ row. row.name) it) identifier)
        (sym (find_none (has_rule rule) (is_for kind identifier) 0 rows (sym (position_from-zero (has_rule rule) rows) ∙ e)))
    by (Some number) e =
        ap (λ it. unwrap_or (option_map (λ rule. name_by rows rule kind identifier) it) identifier) (rule_at-first rows rule number e)
