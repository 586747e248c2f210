-- Hash maps as they are seen: the entry at each key, with the key as it was put in.
use Rattle.std.specs.Prelude.{Bool, if◌then◌else◌, List, Option, Some, None, option_map, unwrap_or}
use Rattle.std.specs.List.{fold}
use Rattle.std.specs.Map.{lookup_entry}
use Rattle.base_core.specs.declared.text.Text.{Text}
use Rattle.node_expr.specs.declared.path.Path.{Path}
use Rattle.error_fault.specs.Outcome.{Outcome}
use Rattle.meta_nested.specs.Cells.{Cells}
use Rattle.meta_reads.specs.Maps.{entries_cells, seen_entries}
use Rattle.meta_reads.specs.Shown.{shown_cells}

-- the entry at each key
abbrev pub seen_table : {K X S A : Type 0} → (S → S → Bool) → (K → S) → (X → A) → List (K × X) → S → Option (S × A)
seen_table same see_key see entries key = lookup_entry (same key) (seen_entries see_key see entries)

-- the key that is there, or else this one
abbrev pub kept_key : {S A : Type 0} → Option (S × A) → S → S
kept_key there key = unwrap_or (option_map (λ entry. entry.0) there) key

-- a table with one more entry: a key that is there stays, and has the new value
abbrev pub put_entry : {S A : Type 0} → (S → S → Bool) → (S → Option (S × A)) → S × A → S → Option (S × A)
put_entry same table entry key = if same entry.0 key then Some (kept_key (table key) entry.0, entry.1) else table key

-- the entry at each key, once the entries are put in one after another
abbrev pub looked_up : {S A : Type 0} → (S → S → Bool) → List (S × A) → S → Option (S × A)
looked_up same entries = fold (put_entry same) (λ key. None) entries

-- a list, as the entry at each key
abbrev pub table_cells : {K A : Type 0} → (K → K → Bool) → (K → Text) → (Path → Outcome K) → Cells A → Cells (K → Option (K × A))
table_cells same text key_of cells = shown_cells (looked_up same) (entries_cells same text key_of cells)
