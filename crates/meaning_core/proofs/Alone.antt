-- An element of which nothing but its items is taken.
use mathlib.Core.Path.{fun_ext}
use Rattle.std.specs.Prelude.{List, [], ◌∷◌, map}
use Rattle.std.proofs.Common.{◌≡◌, refl, ap, ◌∙◌}
use Rattle.base_core.specs.declared.text.Text.{Text}
use Rattle.node_core.specs.declared.style.Style.TheVariants as style
use Rattle.error_fault.specs.Outcome.{Outcome, bind, on_value, settle}
use Rattle.codegen_program.specs.declared.program.Derive.{Derive}
use Rattle.machine_value.specs.Members.{labelled}
use Rattle.machine_value.specs.declared.value.Value.{Value as Datum}
use Rattle.machine_value.specs.declared.value.Value.TheVariants as value
use Rattle.machine_steps.specs.Elements.{Element, attributes_of}
use Rattle.machine_steps.specs.Reading.{transformed}
use Rattle.machine_steps.specs.Reads.{Before, metas}
use Rattle.machine_steps.specs.Setting.{Setting}
use Rattle.meta_entries.specs.Entries.{named_entries}
use Rattle.meta_entries.specs.declared.entry.Entry.{Entry}
use Rattle.meaning_core.specs.Decl.{BodyDecl, Decl, FieldDecl}
use Rattle.meaning_core.specs.ElementLaws.{ItemsAreAll}
use Rattle.meaning_core.specs.ElementMeaning.{element_faults, element_meaning, own_default, part_faults, part_value, woven}
use Rattle.meaning_core.specs.Elements.{Member, OfItems, OuterDecl, PartDecl, element_parts, is_ident, item_fields, of_items}
use Rattle.meaning_core.specs.Meaning.{collected_with, field_values, struct_meaning}

fields_are : (fields : List FieldDecl) → item_fields (map OfItems fields) ≡ fields
fields_are [] = refl
fields_are (field ∷ fields) = ap (λ more. field ∷ more) (fields_are fields)

no_parts : (fields : List FieldDecl) → element_parts (map OfItems fields) ≡ []
no_parts [] = refl
no_parts (field ∷ fields) = no_parts fields

-- the members of items alone are the values under their names
all_labelled : (part : PartDecl → Datum) (fields : List FieldDecl) (values : List Datum)
    → woven part (map OfItems fields) values ≡ labelled (map (λ field. field.member) fields) values
all_labelled part [] values = refl
all_labelled part (field ∷ fields) [] = refl
all_labelled part (field ∷ fields) (it ∷ values) = ap (λ more. (field.member, it) ∷ more) (all_labelled part fields values)

module _ (setting : Setting) (before : Before) (derive : Derive) (decl : Decl) (element : Element) where
  abbrev of : OuterDecl
  of = of_items derive decl

  abbrev entries : List Entry
  entries = named_entries decl.attributes (attributes_of element)

  -- the meaning, where these are the fields that items give, and the parts of the element, put in their order so
  abbrev with_fields : List FieldDecl → List PartDecl → (List Datum → List (Text × Datum)) → Outcome Datum
  with_fields fields parts order =
      let body : BodyDecl = record { fields = fields; default = decl.body.default; allows_unknown = decl.body.allows_unknown } in
      settle (collected_with setting (metas before) body (element_faults setting before of element parts) entries)
      (transformed setting (metas before) decl.transform decl.type
      (bind (own_default setting before of element) (λ whole.
      settle (part_faults setting before of element is_ident parts)
      (on_value (λ values. value.Struct decl.name style.Struct (order values)) (field_values setting (metas before) body whole entries)))))

  all_items : element_meaning setting before of element ≡ struct_meaning setting (metas before) decl entries
  all_items =
      let fields : List FieldDecl = decl.body.fields in
      let order : List Datum → List (Text × Datum) = woven (part_value setting before of element) (map OfItems fields) in
      ap (λ some. with_fields some (element_parts (map OfItems fields)) order) (fields_are fields)
      ∙ ap (λ parts. with_fields fields parts order) (no_parts fields)
      ∙ ap (with_fields fields []) (fun_ext (all_labelled (part_value setting before of element) fields))

pub items_are_all : ItemsAreAll
items_are_all setting before derive decl element = all_items setting before derive decl element
