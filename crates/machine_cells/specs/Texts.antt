-- Entries in the order of their texts.
use Rattle.std.specs.Prelude.{List, [], ◌∷◌}
use Rattle.std.specs.List.{fold}
use Rattle.std.specs.declared.cmp.Ordering.{Ordering}
use Rattle.std.specs.declared.cmp.Ordering.TheVariants.{Less, Equal, Greater}
use Rattle.base_core.specs.declared.text.Text.{Text}
use Rattle.util_core.specs.Maps.{text_order}

module _ {A : Type 0} where
  -- an entry in front of another, where its text is less, or else behind it
  abbrev pub put_by : Ordering → Text × A → Text × A → List (Text × A) → List (Text × A) → List (Text × A)
  put_by Less entry other behind all = entry ∷ all
  put_by Equal entry other behind all = other ∷ behind
  put_by Greater entry other behind all = other ∷ behind

  -- an entry in front of the first whose text is greater
  abbrev pub put : Text × A → List (Text × A) → List (Text × A)
  put entry [] = entry ∷ []
  put entry (other ∷ more) = put_by (text_order entry.0 other.0) entry other (put entry more) (other ∷ more)

  -- the entries in the order of their texts; those of one text stay in theirs
  abbrev pub by_text : List (Text × A) → List (Text × A)
  by_text entries = fold (λ before entry. put entry before) [] entries
