-- The first variant of a name, and what a name comes to.
use Rattle.std.proofs.Common.{◌≡◌, List, [], ◌∷◌, true, false, cond, Option, Some, None, refl}
use Rattle.std.specs.List.{find}
use Rattle.std.specs.Str.{bytes_eq}
use Rattle.base_core.specs.declared.text.Text.{Text}
use Rattle.tok_types.specs.Ident.{ident_text}
use Rattle.node_core.specs.declared.attr.Meta.{Meta}
use Rattle.error_fault.specs.Fault.{at_span}
use Rattle.error_fault.specs.Kind.{set_of}
use Rattle.error_fault.specs.Outcome.{Outcome, Faults, refused}
use Rattle.error_fault.specs.declared.kind.FaultKind.TheVariants.{UnknownField, UnknownValue}
use Rattle.machine_value.specs.declared.value.Value.{Value as Datum}
use Rattle.codegen_program.specs.declared.variant.UnitArm.{UnitArm}
use Rattle.codegen_program.specs.declared.variant.VariantArm.{VariantArm}
use Rattle.machine_read.specs.NestedMeta.{NestedMeta}
use Rattle.machine_read.specs.NestedMeta.TheVariants as nested
use Rattle.machine_read.specs.Nodes.{nested_span}
use Rattle.machine_read.specs.Progress.{Progress, Built}
use Rattle.machine_read.specs.Reads.{Earlier}
use Rattle.machine_read.specs.Setting.{Setting}
use Rattle.machine_steps.specs.Variants.{by_form, by_unit_form, by_variant, unit_names}

module _ (setting : Setting) (earlier : Earlier) (enum : Text) (names : List Text) where
  module _ {S : Type 0} (inside : List S → List NestedMeta → Progress) (name : Text) (it : Meta) where
    -- what an item comes to, by the arm of its name
    abbrev pub of_arm : Option (VariantArm S) → Progress
    of_arm (Some arm) = by_form setting earlier enum inside names arm.name (ident_text arm.ident) arm.form it
    of_arm None = Built (Faults (at_span (UnknownField name (set_of names)) (nested_span (nested.Meta it))) [])

    pub of_first : (arms : List (VariantArm S)) → of_arm (find (λ arm. bytes_eq arm.name name) arms) ≡ by_variant setting earlier enum inside names arms name it
    of_first [] = refl
    of_first (arm ∷ arms) =
        elim (bytes_eq arm.name name) as (λ b. of_arm (cond b (Some arm) (find (λ arm. bytes_eq arm.name name) arms))
        ≡ cond b (by_form setting earlier enum inside names arm.name (ident_text arm.ident) arm.form it) (by_variant setting earlier enum inside names arms name it)) [
          | true ↦ refl
          | false ↦ of_first arms
        ]

  module _ (text : Text) where
    -- what a text comes to, by the arm of that name
    abbrev pub of_unit : Option UnitArm → Outcome Datum
    of_unit (Some arm) = by_unit_form setting earlier enum (ident_text arm.ident) arm.form
    of_unit None = refused (UnknownValue text (set_of names))

    pub of_first_unit : (arms : List UnitArm) → of_unit (find (λ arm. bytes_eq arm.name text) arms) ≡ unit_names setting earlier enum names arms text
    of_first_unit [] = refl
    of_first_unit (arm ∷ arms) =
        elim (bytes_eq arm.name text) as (λ b. of_unit (cond b (Some arm) (find (λ arm. bytes_eq arm.name text) arms))
        ≡ cond b (by_unit_form setting earlier enum (ident_text arm.ident) arm.form) (unit_names setting earlier enum names arms text)) [
          | true ↦ refl
          | false ↦ of_first_unit arms
        ]
