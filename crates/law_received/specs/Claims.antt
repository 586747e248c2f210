-- What a receiver that is written by hand has in common with the declaration of the same fields.
use Rattle.std.specs.Prelude.{◌≡◌, false, List, [], map}
use Rattle.error_fault.specs.Outcome.{Outcome, bind, on_value}
use Rattle.machine_value.specs.declared.value.Value.{Value as Datum}
use Rattle.meta_nested.specs.declared.nested.NestedMeta.{NestedMeta}
use Rattle.machine_steps.specs.Setting.{Setting}
use Rattle.machine_steps.specs.Convert.{Earlier}
use Rattle.machine_steps.specs.Reading.{transformed}
use Rattle.meaning_core.specs.Decl.{Decl}
use Rattle.meta_entries.specs.declared.entry.Entry.{Entry}
use Rattle.meta_entries.specs.declared.entry.Entry.TheVariants as entry
use Rattle.meaning_core.specs.Meaning.{built_struct, collected, struct_meaning, whole_default}
use Rattle.receive_core.specs.Checks.{Checks, FlatChecks}
use Rattle.receive_core.specs.Meaning.{built, entry_meaning, faults_in, names_of}
use Rattle.receive_core.specs.Schema.{Schema}
use Rattle.law_received.specs.Agreement.{AreDistinct, AreFields}

-- the declaration has the fields of a schema, whose names differ, and neither reads the items of other names
pub record IsDeclared (fields : List Checks) (flattened : List FlatChecks) (setting : Setting) (earlier : Earlier) (decl : Decl) : Type 0 where
  pub are_fields : AreFields setting earlier decl.body fields decl.body.fields
  pub are_distinct : AreDistinct (names_of fields)
  pub none_flattened : flattened ≡ []
  pub allows_unknown : decl.body.allows_unknown ≡ false

-- the value that the declaration builds of the items among entries
abbrev pub declared_value : Setting → Earlier → Decl → List Entry → Outcome Datum
declared_value setting earlier decl entries =
    transformed setting earlier decl.transform decl.type
    (bind (whole_default setting decl.type decl.body.default) (λ whole. built_struct setting earlier decl.body decl.name whole entries))

module _ {A : Type 0} (schema : Schema A) where
  -- the same is wrong with any entries of attributes, in the same order
  abbrev pub SameFaults : Type 0
  SameFaults =
      (setting : Setting) (earlier : Earlier) (decl : Decl) → IsDeclared schema.fields schema.flattened setting earlier decl → (entries : List Entry)
      → faults_in schema entries ≡ collected setting earlier decl.body entries

  -- where the values agree of items with which nothing is wrong, any entries mean the same, and so any items: their `meaning` is that of
  -- entries without a fault
  abbrev pub SameMeaning : Type 0
  SameMeaning =
      (setting : Setting) (earlier : Earlier) (decl : Decl) → IsDeclared schema.fields schema.flattened setting earlier decl → (show : A → Datum)
      → ((items : List NestedMeta) → faults_in schema (map entry.Item items) ≡ []
      → on_value show (built (schema.value [] items)) ≡ declared_value setting earlier decl (map entry.Item items))
      → (entries : List Entry) → on_value show (entry_meaning schema entries) ≡ struct_meaning setting earlier decl entries
