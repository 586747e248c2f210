-- What is claimed of a walk: the state behind any entries is the filters of those entries.
use Rattle.std.specs.Prelude.{◌≡◌, Bool, true, false, List, [], ◌∷◌, fold, None}
use Rattle.machine_steps.specs.NestedMeta.{NestedMeta}
use Rattle.error_fault.specs.declared.fault.Fault.{Fault}
use Rattle.error_fault.specs.Outcome.{value_of}
use Rattle.machine_value.specs.Members.{no_value}
use Rattle.meaning_core.specs.Decl.{Shape, Single, Many, Flat, FieldDecl, BodyDecl, has_flat}
use Rattle.machine_steps.specs.Setting.{Setting}
use Rattle.machine_steps.specs.Convert.{Earlier}
use Rattle.meta_entries.specs.Entries.{items}
use Rattle.meta_entries.specs.declared.entry.Entry.{Entry}
use Rattle.meaning_core.specs.Owners.{own, unclaimed, each}
use Rattle.meaning_core.specs.EntryFaults.{read, values, all_entry_faults}
use Rattle.machine_steps.specs.State.{Slot, One, Several, State}
use Rattle.meaning_core.specs.EntrySteps.{entry_step}

module _ (setting : Setting) (earlier : Earlier) where
  -- what stands in the slot of a field that has these items
  abbrev pub slot_by : FieldDecl → Shape → List NestedMeta → Slot
  slot_by field Many own_items = Several field.type (values setting earlier field own_items)
  slot_by field Single [] = One field.type false None
  slot_by field Single (first ∷ later) = One field.type true (value_of (read setting earlier field first))
  slot_by field Flat own_items = One field.type false None

  abbrev pub field_slot : FieldDecl → List NestedMeta → Slot
  field_slot field own_items = slot_by field field.shape own_items

  module _ (body : BodyDecl) where
    abbrev pub kept_by : Bool → List NestedMeta → List NestedMeta
    kept_by true all = unclaimed body.fields all
    kept_by false all = []

    -- the state behind these items, with these faults
    abbrev pub state_behind : List NestedMeta → List Fault → State
    state_behind all faults =
        record { slots = each field_slot body.fields (own body.fields all); faults = faults; kept = kept_by (has_flat body.fields) all; whole = no_value }

    -- the state behind these entries, by filters
    abbrev pub behind : List Entry → State
    behind entries = state_behind (items entries) (all_entry_faults setting earlier body [] entries)

-- the state behind any entries is the filters of those entries
abbrev pub WalkIsFilters : Type 0
WalkIsFilters =
    (setting : Setting) (earlier : Earlier) (body : BodyDecl) (entries : List Entry)
    → fold (entry_step setting earlier body) (behind setting earlier body []) entries ≡ behind setting earlier body entries
