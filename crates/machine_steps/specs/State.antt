-- The state of a run, and what items make of it.
use Rattle.std.specs.Prelude.{ℕ, zero, suc, Bool, true, false, cond, List, [], ◌∷◌, ◌++◌, length, Option, Some, None, slice_set, slice_index_or, codes}
use Rattle.std.specs.Str.{bytes_eq}
use Rattle.base_core.specs.declared.text.Text.{Text}
use Rattle.meta_nested.specs.declared.nested.NestedMeta.{NestedMeta}
use Rattle.error_fault.specs.declared.fault.Fault.{Fault}
use Rattle.error_fault.specs.declared.kind.FaultKind.TheVariants.{DuplicateField, UnexpectedFormat, UnknownField}
use Rattle.error_fault.specs.Kind.{set_of}
use Rattle.error_fault.specs.Fault.{at_span}
use Rattle.error_fault.specs.Faults.{at}
use Rattle.error_fault.specs.Outcome.{Outcome, Value, Faults}
use Rattle.machine_value.specs.declared.value.Value.{Value as Datum}
use Rattle.meta_nested.specs.Nodes.{nested_span}
use Rattle.codegen_program.specs.declared.arm.Arm.{Arm}
use Rattle.codegen_program.specs.declared.arm.Rest.{Rest}
use Rattle.codegen_program.specs.declared.arm.Rest.TheVariants as rests
use Rattle.machine_host.specs.Made.{named_type}
use Rattle.node_expr.specs.declared.ty.«Type».{«Type» as Type'}
use Rattle.machine_steps.specs.Names.{item_name}
use Rattle.machine_steps.specs.Setting.{Setting}
use Rattle.machine_steps.specs.Convert.{Earlier, element}
use Rattle.machine_steps.specs.Reading.{label, read_at}

-- a place for one value, seen or not, with a value or none; or for a list of values
pub data Slot : Type 0 where
  One : Type' → Bool → Option Datum → Slot
  Several : Type' → List Datum → Slot

-- `kept`: the items that no arm takes, where they are kept; `whole`: the container's default
pub record State : Type 0 where
  pub slots : List Slot
  pub faults : List Fault
  pub kept : List NestedMeta
  pub whole : Datum

-- the first arm of a name
abbrev pub find_arm : List Arm → Text → Option Arm
find_arm [] name = None
find_arm (first ∷ more) name = cond (bytes_eq first.name name) (Some first) (find_arm more name)

abbrev pub with_faults : List Fault → State → State
with_faults faults state = record state { faults = state.faults ++ faults }

-- a new slot at a place, and more faults
abbrev pub put : ℕ → Slot × List Fault → State → State
put place change state = record state { slots = slice_set state.slots place change.0; faults = state.faults ++ change.1 }

-- what stands at a number that has no slot
abbrev pub nowhere : Slot
nowhere = Several (named_type []) []

abbrev pub slot_at : List Slot → ℕ → Slot
slot_at slots place = slice_index_or slots place nowhere

-- the slot of this number; below it stands nothing yet where no slot is
abbrev pub declared : ℕ → Slot → List Slot → List Slot
declared zero slot [] = slot ∷ []
declared zero slot (first ∷ more) = slot ∷ more
declared (suc number) slot [] = nowhere ∷ declared number slot []
declared (suc number) slot (first ∷ more) = first ∷ declared number slot more

-- what an unseen slot becomes, and the faults that this adds
abbrev pub filled : Type' → Text → Outcome Datum → Slot × List Fault
filled type name (Value value) = (One type true (Some value), [])
filled type name (Faults fault more) = (One type true None, at (fault ∷ more) name)

-- what a list becomes, and the faults that this adds
abbrev pub pushed : Type' → List Datum → Text → Outcome Datum → Slot × List Fault
pushed type values name (Value value) = (Several type (values ++ value ∷ []), [])
pushed type values name (Faults fault more) = (Several type values, at (fault ∷ more) (label name (length values)))

-- an item of no arm
abbrev pub by_rest : Rest → Text → NestedMeta → State → State
by_rest rests.Buffer name item state = record state { kept = state.kept ++ item ∷ [] }
by_rest rests.Ignore name item state = state
by_rest (rests.Unknown alternatives) name item state =
    with_faults (at_span (UnknownField name (set_of alternatives)) (nested_span item) ∷ []) state

module _ (setting : Setting) (earlier : Earlier) where
  -- what an arm makes of a slot by an item
  abbrev pub arm_slot : Arm → NestedMeta → Slot → Slot × List Fault
  arm_slot it item (One type true value) = (One type true value, at_span (DuplicateField it.name) (nested_span item) ∷ [])
  arm_slot it item (One type false value) = filled type it.name (read_at setting earlier it.with it.post type item)
  arm_slot it item (Several type values) = pushed type values it.name (read_at setting earlier it.with it.post (element setting type) item)

  module _ (taken : List Arm) (others : Rest) where
    abbrev pub by_arm : Text → NestedMeta → Option Arm → State → State
    by_arm name item None state = by_rest others name item state
    by_arm name item (Some it) state = put it.slot (arm_slot it item (slot_at state.slots it.slot)) state

    -- an item by its name; a literal has none
    abbrev pub by_name : State → NestedMeta → Option Text → State
    by_name state item None = with_faults (at_span (UnexpectedFormat (codes "literal")) (nested_span item) ∷ []) state
    by_name state item (Some name) = by_arm name item (find_arm taken name) state

    -- the state behind one more item
    abbrev pub step : State → NestedMeta → State
    step state item = by_name state item (item_name item)
