-- The rows of sets of names: a name an item, and each name once.
use Rattle.std.specs.Prelude.{Bool, false, List, [], ◌∷◌, ◌++◌, flat_map, Option, Some}
use Rattle.std.specs.List.{find}
use Rattle.base_core.specs.declared.text.Text.{Text}
use Rattle.tok_types.specs.declared.span.Span.{Span}
use Rattle.error_fault.specs.Outcome.{Outcome, Value, Faults, settle}
use Rattle.error_fault.specs.declared.fault.Fault.{Fault}
use Rattle.meta_nested.specs.declared.nested.NestedMeta.{NestedMeta}
use Rattle.meta_nested.specs.Cells.{Cells, no_cells}
use Rattle.meta_reads.specs.Maps.{repeated, with_key}

-- whether what is read is this name
abbrev pub is_name : {A : Type 0} → (A → A → Bool) → A → Outcome A → Bool
is_name same name (Value other) = same other name
is_name same name (Faults fault more) = false

-- by which names are the same, what their texts are and where they stand
module _ {A : Type 0} (same : A → A → Bool) (text : A → Text) (span_of : A → Span) where
  -- the faults of an item: that it is no name, or that its name is one before
  abbrev pub name_faults : List A → Outcome A → List Fault
  name_faults before (Value name) = repeated same text before (span_of name) name
  name_faults before (Faults fault more) = fault ∷ more

  -- the faults of all items in order, behind these names
  abbrev pub set_faults : (NestedMeta → Outcome A) → List A → List NestedMeta → List Fault
  set_faults read before [] = []
  set_faults read before (item ∷ items) = name_faults before (read item) ++ set_faults read (with_key before (read item)) items

-- the names that the items are, in the items' order
abbrev pub names_of : {A : Type 0} → (NestedMeta → Outcome A) → List NestedMeta → List A
names_of read items = flat_map (λ item. with_key [] (read item)) items

-- the name that stands in a set for this one: the first of the items that is the same
abbrev pub kept_name : {A : Type 0} → (A → A → Bool) → (NestedMeta → Outcome A) → List NestedMeta → A → Option A
kept_name same read items name = find (same name) (names_of read items)

-- the items of a list, each by `read`, as the name that stands for each
abbrev pub set_cells : {A : Type 0} → (A → A → Bool) → (A → Text) → (A → Span) → (NestedMeta → Outcome A) → Cells (A → Option A)
set_cells same text span_of read =
    record no_cells { list = λ items. Some (settle (set_faults same text span_of read [] items) (Value (kept_name same read items))) }
