-- Enums under `FromMeta`: the variant of an item, and that of a text.
use Rattle.std.specs.Prelude.{cond, List, [], ◌∷◌, Option, Some, None, codes}
use Rattle.std.specs.Str.{bytes_eq}
use Rattle.base_core.specs.declared.text.Text.{Text}
use Rattle.tok_types.specs.Ident.{ident_text}
use Rattle.node_core.specs.declared.attr.Meta.{Meta}
use Rattle.node_core.specs.declared.attr.Meta.TheVariants as meta
use Rattle.node_core.specs.declared.style.Style.TheVariants as style
use Rattle.error_fault.specs.Fault.{at_span}
use Rattle.error_fault.specs.Kind.{set_of}
use Rattle.error_fault.specs.Outcome.{Outcome, Value, Faults, on_value, refused, under}
use Rattle.error_fault.specs.declared.kind.FaultKind.TheVariants.{TooFewItems, TooManyItems, UnexpectedFormat, UnknownField, UnknownValue}
use Rattle.machine_host.specs.Dispatch.{from_meta, items_of}
use Rattle.meta_nested.specs.Nodes.{nested_span}
use Rattle.meta_nested.specs.declared.nested.NestedMeta.{NestedMeta}
use Rattle.meta_nested.specs.declared.nested.NestedMeta.TheVariants as nested
use Rattle.machine_value.specs.declared.value.Value.{Value as Datum}
use Rattle.machine_value.specs.declared.value.Value.TheVariants as value
use Rattle.codegen_program.specs.declared.variant.UnitArm.{UnitArm}
use Rattle.codegen_program.specs.declared.variant.UnitForm.{UnitForm}
use Rattle.codegen_program.specs.declared.variant.UnitForm.TheVariants as unit_form
use Rattle.codegen_program.specs.declared.variant.VariantArm.{VariantArm}
use Rattle.codegen_program.specs.declared.variant.VariantForm.{VariantForm}
use Rattle.codegen_program.specs.declared.variant.VariantForm.TheVariants as form
use Rattle.machine_steps.specs.Building.{one_member, one_style}
use Rattle.machine_steps.specs.Convert.{cells, none}
use Rattle.machine_steps.specs.Names.{meta_name}
use Rattle.machine_steps.specs.Progress.{Progress, Built, Ended}
use Rattle.machine_steps.specs.Reads.{Earlier}
use Rattle.machine_steps.specs.Setting.{Setting}

-- something of another format than is read
abbrev pub format : Text → Outcome Datum
format it = refused (UnexpectedFormat it)

-- what follows from the items of a list; where it is none, the run ends with that
abbrev pub on_list : Outcome (List NestedMeta) → (List NestedMeta → Progress) → Progress
on_list (Value items) next = next items
on_list (Faults fault more) next = Ended fault more

-- a variant of the enum without members
abbrev pub bare : Text → Text → Datum
bare enum variant = value.Variant enum variant style.Unit []

-- a variant of the enum of this one member
abbrev pub wrapped : Text → Text → Text → Datum → Datum
wrapped enum variant member it = value.Variant enum variant (one_style member) (one_member member it)

module _ (setting : Setting) (earlier : Earlier) (enum : Text) where
  -- ---- of an item; `inside` is what the statements of a variant make of the items of its list

  module _ {S : Type 0} (inside : List S → List NestedMeta → Progress) (names : List Text) where
    -- a variant by its form: a word, a list, or what its one member's type reads
    abbrev pub by_form : Text → Text → VariantForm S → Meta → Progress
    by_form name variant form.«Unit» (meta.Path path) = Built (Value (bare enum variant))
    by_form name variant form.«Unit» (meta.«List» list) = Built (format (codes "non-path"))
    by_form name variant form.«Unit» (meta.NameValue pair) = Built (format (codes "non-path"))
    by_form name variant (form.Transparent member type) it =
        Built (on_value (wrapped enum variant member) (under name (from_meta (cells setting earlier type) it)))
    by_form name variant (form.Struct stmts) (meta.«List» list) = on_list (items_of list.tokens) (inside stmts)
    by_form name variant (form.Struct stmts) (meta.Path path) = Built (format (codes "non-list"))
    by_form name variant (form.Struct stmts) (meta.NameValue pair) = Built (format (codes "non-list"))

    -- the first arm of the name
    abbrev pub by_variant : List (VariantArm S) → Text → Meta → Progress
    by_variant [] name it = Built (Faults (at_span (UnknownField name (set_of names)) (nested_span (nested.Meta it))) [])
    by_variant (arm ∷ arms) name it = cond (bytes_eq arm.name name) (by_form arm.name (ident_text arm.ident) arm.form it) (by_variant arms name it)

    -- the one item of the list
    abbrev pub one_item : List (VariantArm S) → NestedMeta → Progress
    one_item arms (nested.Meta it) = by_variant arms (meta_name it) it
    one_item arms (nested.Lit it) = Built (format (codes "literal"))
    one_item arms (nested.NameValueInvalidExpr it) = Built (format (codes "literal"))

    -- the list has one item
    abbrev pub variants : List (VariantArm S) → List NestedMeta → Progress
    variants arms [] = Built (refused (TooFewItems 1))
    variants arms (item ∷ []) = one_item arms item
    variants arms (item ∷ other ∷ more) = Built (refused (TooManyItems 1))

  -- ---- of a text

  -- the variant of one member, where that has a value without an item
  abbrev pub of_none : Text → Text → Option Datum → Outcome Datum
  of_none variant member (Some it) = Value (wrapped enum variant member it)
  of_none variant member None = format (codes "literal")

  abbrev pub by_unit_form : Text → UnitForm → Outcome Datum
  by_unit_form variant unit_form.«Unit» = Value (bare enum variant)
  by_unit_form variant (unit_form.Transparent member type) = of_none variant member (none setting earlier type)
  by_unit_form variant unit_form.Other = format (codes "literal")

  -- the first arm of the name
  abbrev pub unit_names : List Text → List UnitArm → Text → Outcome Datum
  unit_names names [] text = refused (UnknownValue text (set_of names))
  unit_names names (arm ∷ arms) text = cond (bytes_eq arm.name text) (by_unit_form (ident_text arm.ident) arm.form) (unit_names names arms text)
