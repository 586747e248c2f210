-- What is claimed of the meaning of declarations.
use Rattle.std.specs.Prelude.{◌≡◌, false, List, [], ◌∷◌, ◌++◌, Some, None}
use Rattle.base_core.specs.declared.text.Text.{Text}
use Rattle.error_fault.specs.Fault.{at_span}
use Rattle.error_fault.specs.Kind.{set_of}
use Rattle.error_fault.specs.declared.fault.Fault.{Fault}
use Rattle.error_fault.specs.declared.kind.FaultKind.TheVariants.{UnknownField}
use Rattle.machine_steps.specs.Convert.{Earlier}
use Rattle.machine_steps.specs.Names.{item_name}
use Rattle.meaning_core.specs.NestedMeta.{NestedMeta}
use Rattle.meaning_core.specs.Nodes.{nested_span}
use Rattle.machine_steps.specs.Setting.{Setting}
use Rattle.meaning_core.specs.Decl.{BodyDecl, has_flat, names}
use Rattle.meta_entries.specs.declared.entry.Entry.{Entry}
use Rattle.meta_entries.specs.declared.entry.Entry.TheVariants as entry
use Rattle.meaning_core.specs.EntryFaults.{all_entry_faults}
use Rattle.meaning_core.specs.Meaning.{collected}
use Rattle.meaning_core.specs.Owners.{owner_named}

-- the fault of an item of this name that no field takes
abbrev pub unknown_fault : BodyDecl → Text → NestedMeta → Fault
unknown_fault body name item = at_span (UnknownField name (set_of (names body.fields))) (nested_span item)

-- Where no field is flattened and unknown items are refused, an item of a name that no field has, put among any entries, adds
-- one fault behind those of the entries before it, and keeps all others in order.
abbrev pub OneMoreFault : Type 0
OneMoreFault =
    (setting : Setting) (earlier : Earlier) (body : BodyDecl) (before after : List Entry) (item : NestedMeta) (name : Text)
    → has_flat body.fields ≡ false → body.allows_unknown ≡ false → item_name item ≡ Some name → owner_named body.fields name ≡ None
    → (later : List Fault)
    × (collected setting earlier body (before ++ after) ≡ all_entry_faults setting earlier body [] before ++ later)
    × (collected setting earlier body (before ++ entry.Item item ∷ after) ≡ all_entry_faults setting earlier body [] before ++ unknown_fault body name item ∷ later)
