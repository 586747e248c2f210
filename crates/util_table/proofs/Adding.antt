-- The places of rows, as a row is added.
use Rattle.std.proofs.Common.{◌≡◌, ℕ, Bool, true, false, cond, ◌&&◌, List, Option, Some, None, Result, Ok, Err, is_some, option_map, option_and_then, bytes_eq, refl, ap, sym, ◌∙◌}
use Rattle.std.specs.BTreeMap.{get_by_text}
use Rattle.std.specs.Map.{update}
use Rattle.std.specs.Result.{OnOk}
use Rattle.std.proofs.lemmas.Slice.Eq.{bytes_eq-Decides}
use Rattle.util_table.specs.Places.{Places, AddsRow, first_of, or_at, place_in, place_of}
use Rattle.util_table.specs.Table.{is_for}
use Rattle.util_table.specs.declared.places.RulePlaces.{RulePlaces}
use Rattle.util_table.specs.declared.row.RenameKind.{RenameKind}
use Rattle.util_table.specs.declared.row.Row.{Row}
use Rattle.util_table.proofs.FirstPlaces.{option_or-none}

-- a place that is put where there was none
pub or_at-new : (found : List ℕ → Option ℕ) (text other : List ℕ) (at : ℕ) → is_some (found text) ≡ false
    → update bytes_eq found text (Some at) other ≡ or_at (found other) (bytes_eq text other) at
or_at-new found text other at absent = by (bytes_eq text other) (found other) (λ e. ap (λ t. is_some (found t)) (sym ((bytes_eq-Decides text other).0 e)) ∙ absent)
  where
    by : (b : Bool) (now : Option ℕ) → (b ≡ true → is_some now ≡ false) → cond b (Some at) now ≡ or_at now b at
    by true None none = refl
    by true (Some k) none = let e = none refl in cc
    by false now none = sym (option_or-none now)

module _ (old new : Places) (row : Row) (at : ℕ) (of_rule : RulePlaces) where
  put_first : (b : Bool) (found : Option RulePlaces)
      → (b ≡ true → Some of_rule.first ≡ or_at (option_map (λ it. it.first) found) true at)
      → option_map (λ it. it.first) (cond b (Some of_rule) found) ≡ or_at (option_map (λ it. it.first) found) b at
  put_first true found same = same refl
  put_first false found same = sym (option_or-none (option_map (λ it. it.first) found))

  put_rest : (place : RulePlaces → Option ℕ) (b passes : Bool) (found : Option RulePlaces)
      → (b ≡ true → place of_rule ≡ or_at (option_and_then place found) passes at)
      → option_and_then place (cond b (Some of_rule) found) ≡ or_at (option_and_then place found) (b && passes) at
  put_rest place true passes found same = same refl
  put_rest place false passes found same = sym (option_or-none (option_and_then place found))

  -- the rule of the row gets its places, with that of the row
  pub AddsRow-put : ((rule : List ℕ) → get_by_text new rule ≡ update bytes_eq (get_by_text old) row.rule (Some of_rule) rule)
      → Some of_rule.first ≡ or_at (first_of old row.rule) true at
      → ((kind : RenameKind) (identifier : List ℕ) → place_in of_rule kind identifier ≡ or_at (place_of old row.rule kind identifier) (is_for kind identifier row) at)
      → AddsRow old new row at
  AddsRow-put put first rest = record {
    first = λ rule.
        ap (option_map (λ it. it.first)) (put rule)
        ∙ put_first (bytes_eq row.rule rule) (get_by_text old rule)
        (λ e. first ∙ ap (λ it. or_at (first_of old it) true at) ((bytes_eq-Decides row.rule rule).0 e));
    rest = λ rule kind identifier.
        ap (option_and_then (λ it. place_in it kind identifier)) (put rule)
        ∙ put_rest (λ it. place_in it kind identifier) (bytes_eq row.rule rule) (is_for kind identifier row) (get_by_text old rule)
        (λ e. rest kind identifier ∙ ap (λ it. or_at (place_of old it kind identifier) (is_for kind identifier row) at) ((bytes_eq-Decides row.rule rule).0 e));
  }

-- what follows from two clauses of a call
pub on_both : {T E P Q R : Type 0} (result : Result T E) → OnOk result P → OnOk result Q → (P → Q → R) → OnOk result R
on_both (Ok value) p q both = both p q
on_both (Err error) p q both = tt
