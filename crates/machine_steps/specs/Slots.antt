-- What statements make of a slot.
use Rattle.std.specs.Prelude.{true, false, List, [], ◌∷◌, Option, Some, None, option_map}
use Rattle.base_core.specs.declared.text.Text.{Text}
use Rattle.tok_types.specs.Ident.{ident_text}
use Rattle.node_expr.specs.declared.ty.«Type».{«Type» as Type'}
use Rattle.meta_nested.specs.declared.nested.NestedMeta.{NestedMeta}
use Rattle.error_fault.specs.declared.fault.Fault.{Fault}
use Rattle.error_fault.specs.declared.kind.FaultKind.TheVariants.{MissingField}
use Rattle.error_fault.specs.Fault.{plain}
use Rattle.error_fault.specs.Outcome.{Outcome, Value, Faults, on_value, with_siblings}
use Rattle.machine_host.specs.Seen.{NothingSeen}
use Rattle.machine_host.specs.declared.place.Use.TheVariants as use_at
use Rattle.machine_value.specs.declared.value.Value.{Value as Datum}
use Rattle.machine_value.specs.declared.value.Value.TheVariants as value
use Rattle.machine_value.specs.Members.{member}
use Rattle.codegen_program.specs.declared.init.Fallback.{Fallback}
use Rattle.codegen_program.specs.declared.init.Fallback.TheVariants as fallbacks
use Rattle.codegen_program.specs.declared.init.Init.{Init}
use Rattle.machine_steps.specs.Setting.{Setting, ask}
use Rattle.machine_steps.specs.Convert.{Earlier, list, none, default}
use Rattle.machine_steps.specs.State.{Slot, One, Several, slot_at}

abbrev pub slot_type : Slot → Type'
slot_type (One type seen value) = type
slot_type (Several type values) = type

-- a slot that was read as a whole, and the faults of that
abbrev pub read_slot : Type' → Outcome Datum → Slot × List Fault
read_slot type (Value value) = (One type true (Some value), [])
read_slot type (Faults fault more) = (One type true None, fault ∷ more)

-- a slot that nothing was read into has the value of no item, or is missing
abbrev pub absent : Type' → Text → Option Datum → Slot × List Fault
absent type name (Some value) = (One type true (Some value), [])
absent type name None = (One type false None, plain (MissingField name) ∷ [])

module _ (setting : Setting) where
  -- what a fallback gives at a type; `whole` is the default of the receiver
  abbrev pub fallback_value : Type' → Datum → Fallback → Outcome Datum
  fallback_value type whole (fallbacks.Inherit ident) = Value (member (ident_text ident) whole)
  fallback_value type whole (fallbacks.Explicit callable) = ask setting callable use_at.Default type NothingSeen
  fallback_value type whole fallbacks.Trait = Value (default setting type)

  -- a list without a value has what stands for it, and else is empty
  abbrev pub empty_list : Type' → Datum → Option Fallback → Outcome Datum
  empty_list type whole None = Value (value.List [])
  empty_list type whole (Some fallback) = fallback_value type whole fallback

  -- the value of a member; none where its slot has no value and nothing stands for it
  abbrev pub init_value : Datum → Option Fallback → Slot → Option (Outcome Datum)
  init_value whole fallback (One type seen (Some value)) = Some (Value value)
  init_value whole fallback (One type seen None) = option_map (fallback_value type whole) fallback
  init_value whole fallback (Several type []) = Some (empty_list type whole fallback)
  init_value whole fallback (Several type (first ∷ more)) = Some (Value (value.List (first ∷ more)))

  abbrev pub in_front : Option (Outcome Datum) → Option (Outcome (List Datum)) → Option (Outcome (List Datum))
  in_front None others = None
  in_front (Some (Faults fault more)) others = Some (Faults fault more)
  in_front (Some (Value value)) others = option_map (on_value (λ values. value ∷ values)) others

  -- the values of the members in order, or the first faults alone
  abbrev pub init_values : Datum → List Slot → List Init → Option (Outcome (List Datum))
  init_values whole slots [] = Some (Value [])
  init_values whole slots (init ∷ inits) =
      in_front (init_value whole init.fallback (slot_at slots init.slot)) (init_values whole slots inits)

  module _ (earlier : Earlier) where
    -- a flattened field, read from the items that were kept
    abbrev pub read_flat : List Text → List NestedMeta → Slot → Slot × List Fault
    read_flat names kept slot = read_slot (slot_type slot) (with_siblings names (list setting earlier (slot_type slot) kept))

    -- a slot that has to be seen
    abbrev pub check_missing : Type' → Text → Slot → Slot × List Fault
    check_missing type name (One slot_type false value) = absent type name (none setting earlier type)
    check_missing type name (One slot_type true value) = (One slot_type true value, [])
    check_missing type name (Several slot_type values) = (Several slot_type values, [])
