-- The faults of entries and what stands behind them: each item behind those before it, or with a state.
use Rattle.std.specs.Prelude.{List, [], ◌∷◌, ◌++◌}
use Rattle.node_core.specs.declared.attr.Meta.{Meta}
use Rattle.error_fault.specs.Outcome.{Outcome, Value, Faults, settle}
use Rattle.error_fault.specs.declared.fault.Fault.{Fault}
use Rattle.options_rows.specs.Entries.{items}

-- `options` is what stands behind items, and `faults` what is wrong with an item behind what stands
module _ {S : Type 0} (options : S → List Meta → S) (faults : S → Meta → List Fault) where
  -- the faults of all entries that stand behind these items
  abbrev pub all_faults : S → List Meta → List (Outcome Meta) → List Fault
  all_faults set before [] = []
  all_faults set before (Faults fault more ∷ entries) = (fault ∷ more) ++ all_faults set before entries
  all_faults set before (Value item ∷ entries) = faults (options set before) item ++ all_faults set (before ++ item ∷ []) entries

  -- what attributes mean: their faults, else what stands behind all their items
  abbrev pub read_options : S → List (Outcome Meta) → Outcome S
  read_options set entries = settle (all_faults set [] entries) (Value (options set (items entries)))

  -- what one entry leaves
  abbrev pub after_entry : S → Outcome Meta → S
  after_entry set (Faults fault more) = set
  after_entry set (Value item) = options set (item ∷ [])

  abbrev pub entry_faults : S → Outcome Meta → List Fault
  entry_faults set (Faults fault more) = fault ∷ more
  entry_faults set (Value item) = faults set item

  -- what entries leave, one after another, and their faults
  abbrev pub walk_state : S → List (Outcome Meta) → S
  walk_state set [] = set
  walk_state set (entry ∷ entries) = walk_state (after_entry set entry) entries

  abbrev pub walk_faults : S → List (Outcome Meta) → List Fault
  walk_faults set [] = []
  walk_faults set (entry ∷ entries) = entry_faults set entry ++ walk_faults (after_entry set entry) entries
