-- The meaning of a struct: the faults that are collected, else the value that is built.
use Rattle.std.specs.Prelude.{List, [], ◌∷◌, ◌++◌, map, Option, Some, None}
use Rattle.base_core.specs.declared.text.Text.{Text}
use Rattle.error_fault.specs.declared.fault.Fault.{Fault}
use Rattle.error_fault.specs.Outcome.{Outcome, Value, bind, on_value, settle}
use Rattle.machine_value.specs.declared.value.Value.{Value as Datum}
use Rattle.machine_value.specs.Members.{no_value, struct_of, labelled}
use Rattle.machine_steps.specs.Seen.{NothingSeen}
use Rattle.machine_steps.specs.Use.TheVariants as use_at
use Rattle.node_expr.specs.declared.ty.«Type».{«Type» as Type'}
use Rattle.meaning_core.specs.Decl.{Default, ByType, ByCall, BodyDecl, Decl}
use Rattle.machine_steps.specs.Setting.{Setting, ask}
use Rattle.machine_steps.specs.Convert.{Earlier, default}
use Rattle.meta_entries.specs.Entries.{items}
use Rattle.meta_entries.specs.declared.entry.Entry.{Entry}
use Rattle.meaning_core.specs.Owners.{own, each}
use Rattle.machine_steps.specs.Reading.{transformed}
use Rattle.meaning_core.specs.EntryFaults.{all_entry_faults}
use Rattle.meaning_core.specs.FieldValue.{flat_faults, missing, field_value}

-- the lists, one after another
abbrev pub joined : List (List Fault) → List Fault
joined [] = []
joined (faults ∷ more) = faults ++ joined more

-- all values in order, or the first faults alone
abbrev pub in_order : List (Outcome Datum) → Outcome (List Datum)
in_order [] = Value []
in_order (outcome ∷ outcomes) = bind outcome (λ value. on_value (λ values. value ∷ values) (in_order outcomes))

-- the default of a declaration, which is this type
abbrev pub default_outcome : Setting → Type' → Default → Outcome Datum
default_outcome setting type ByType = Value (default setting type)
default_outcome setting type (ByCall callable) = ask setting callable use_at.Default type NothingSeen

-- the container's default, where it has one
abbrev pub whole_default : Setting → Type' → Option Default → Outcome Datum
whole_default setting type None = Value no_value
whole_default setting type (Some given) = default_outcome setting type given

module _ (setting : Setting) (earlier : Earlier) where
  module _ (body : BodyDecl) where
    -- the faults of all entries, those of what stands around them (`outer`), then the flattened fields' and the missing
    -- fields'
    abbrev pub collected_with : List Fault → List Entry → List Fault
    collected_with outer entries =
        all_entry_faults setting earlier body [] entries
        ++ (outer
        ++ (joined (each (λ field own_items. flat_faults setting earlier body field field.shape (items entries)) body.fields (own body.fields (items entries)))
        ++ joined (each (λ field own_items. missing setting earlier body field field.shape own_items) body.fields (own body.fields (items entries)))))

    -- the collected faults of entries alone
    abbrev pub collected : List Entry → List Fault
    collected entries = collected_with [] entries

    -- the values of all fields, in order; `whole` is the container's default
    abbrev pub field_values : Datum → List Entry → Outcome (List Datum)
    field_values whole entries =
        in_order (each (λ field own_items. field_value setting earlier body whole (items entries) field field.shape own_items) body.fields (own body.fields (items entries)))

    -- the struct of this name, of all fields' values
    abbrev pub built_struct : Text → Datum → List Entry → Outcome Datum
    built_struct name whole entries =
        on_value (λ values. struct_of name (labelled (map (λ field. field.member) body.fields) values)) (field_values whole entries)

  module _ (decl : Decl) where
    -- the collected faults, else the struct behind the container's default and transform
    abbrev pub meaning_with : List Fault → List Entry → Outcome Datum
    meaning_with outer entries =
        settle (collected_with decl.body outer entries)
        (transformed setting earlier decl.transform decl.type
        (bind (whole_default setting decl.type decl.body.default) (λ whole. built_struct decl.body decl.name whole entries)))

    -- what the entries mean
    abbrev pub struct_meaning : List Entry → Outcome Datum
    struct_meaning entries = meaning_with [] entries
