-- When a field of a receiver is a field of a declaration.
use Rattle.std.specs.Prelude.{◌≡◌, false, Some, None, is_some}
use Rattle.error_fault.specs.Outcome.{faults_of}
use Rattle.meta_nested.specs.Cells.{Cells}
use Rattle.meta_nested.specs.Dispatch.{from_nested_meta, from_none}
use Rattle.meta_nested.specs.declared.nested.NestedMeta.{NestedMeta}
use Rattle.machine_steps.specs.Setting.{Setting}
use Rattle.machine_steps.specs.Convert.{Earlier, none}
use Rattle.meaning_core.specs.Decl.{BodyDecl, Fallback, FieldDecl, Many, Single, fallback}
use Rattle.meaning_core.specs.EntryFaults.{read}
use Rattle.receive_core.specs.Checks.{multiple_checks, optional_checks, single_checks}
use Rattle.law_received.specs.Agreement.{IsField}

-- the cells and the field find the same wrong with each item
abbrev pub ReadsAlike : {A : Type 0} → Cells A → Setting → Earlier → FieldDecl → Type 0
ReadsAlike cells setting earlier field =
    (item : NestedMeta) → faults_of (read setting earlier field item) ≡ faults_of (from_nested_meta cells item)

-- a single field without a default, at a type that has a value for no item exactly where the cells have one
abbrev pub SingleIsField : {A : Type 0} → Cells A → Type 0
SingleIsField cells =
    (setting : Setting) (earlier : Earlier) (body : BodyDecl) (field : FieldDecl) → ReadsAlike cells setting earlier field
    → field.shape ≡ Single → field.skip ≡ false → fallback body field ≡ None
    → is_some (none setting earlier field.type) ≡ is_some (from_none cells)
    → IsField setting earlier body (single_checks cells field.name) field

-- a single field with a default
abbrev pub OptionalIsField : {A : Type 0} → Cells A → Type 0
OptionalIsField cells =
    (setting : Setting) (earlier : Earlier) (body : BodyDecl) (field : FieldDecl) → ReadsAlike cells setting earlier field
    → field.shape ≡ Single → field.skip ≡ false → (fall : Fallback) → fallback body field ≡ Some fall
    → IsField setting earlier body (optional_checks cells field.name) field

-- a field of many values, with a default or without
abbrev pub MultipleIsField : {A : Type 0} → Cells A → Type 0
MultipleIsField cells =
    (setting : Setting) (earlier : Earlier) (body : BodyDecl) (field : FieldDecl) → ReadsAlike cells setting earlier field
    → field.shape ≡ Many → field.skip ≡ false
    → IsField setting earlier body (multiple_checks cells field.name) field
