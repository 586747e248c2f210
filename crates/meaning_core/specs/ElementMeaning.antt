-- What an element means under a declaration whose derive reads it.
use Rattle.std.specs.Prelude.{ℕ, ◌==◌, Bool, ◌&&◌, cond, not, if◌then◌else◌, List, [], ◌∷◌, ◌++◌, filter, flat_map, Option, Some, None, unwrap_or}
use Rattle.base_core.specs.declared.text.Text.{Text}
use Rattle.node_core.specs.Meta.{path_of_meta}
use Rattle.node_core.specs.declared.attr.Attribute.{Attribute}
use Rattle.node_core.specs.declared.style.Style.{Style}
use Rattle.error_fault.specs.declared.fault.Fault.{Fault}
use Rattle.error_fault.specs.Outcome.{Outcome, Value, bind, faults_of, on_value, settle, value_of}
use Rattle.meta_entries.specs.Attributes.{is_named}
use Rattle.meta_entries.specs.Entries.{named_entries}
use Rattle.meta_entries.specs.declared.entry.Entry.{Entry}
use Rattle.codegen_program.specs.declared.forwarded.Magic.{Magic}
use Rattle.codegen_program.specs.declared.forwarded.Magic.TheVariants as magic
use Rattle.machine_value.specs.Members.{no_value}
use Rattle.machine_value.specs.declared.value.Value.{Value as Datum}
use Rattle.machine_value.specs.declared.value.Value.TheVariants as value
use Rattle.machine_steps.specs.Attributes.{attrs_outcome, passes}
use Rattle.machine_steps.specs.Building.{alone, bounds_value, default_value, discriminant_value, ident_outcome, ty_value, vis_value}
use Rattle.machine_steps.specs.Elements.{Element, attributes_of}
use Rattle.machine_steps.specs.Outer.{outer}
use Rattle.machine_steps.specs.Parts.{body_outcome, generics_outcome}
use Rattle.machine_steps.specs.Reading.{transformed}
use Rattle.machine_steps.specs.Reads.{Before, metas}
use Rattle.machine_steps.specs.Setting.{Setting}
use Rattle.machine_steps.specs.Shapes.{shape_faults}
use Rattle.machine_steps.specs.Statements.{from_ident}
use Rattle.meaning_core.specs.Elements.{AsOne, ByMembers, Member, OfElement, OfItems, OuterDecl, OuterForm, PartDecl, element_parts, is_attrs, is_body, is_generics, is_ident, items_decl}
use Rattle.meaning_core.specs.Meaning.{collected_with, field_values, whole_default}

-- the members in their order: the next value of those that items give, or the part of the element
abbrev pub woven : (PartDecl → Datum) → List Member → List Datum → List (Text × Datum)
woven part [] values = []
woven part (OfElement it ∷ members) values = (it.member, part it) ∷ woven part members values
woven part (OfItems field ∷ members) [] = []
woven part (OfItems field ∷ members) (it ∷ values) = (field.member, it) ∷ woven part members values

module _ (setting : Setting) (before : Before) (it : OuterDecl) (element : Element) where
  -- the attributes that are not read and that are to be kept
  abbrev pub kept_attributes : List Attribute
  kept_attributes =
      filter (λ one. not (is_named it.attributes (path_of_meta one.meta)) && passes it.keeps (path_of_meta one.meta)) (attributes_of element)

  -- what is made of a part for its field
  abbrev pub outcome_at : PartDecl → Magic → Outcome Datum
  outcome_at part magic.Ident = ident_outcome setting part.with (Some part.type) element
  outcome_at part magic.Attrs = attrs_outcome setting part.with (Some part.type) kept_attributes
  outcome_at part magic.Vis = Value (vis_value element)
  outcome_at part magic.Generics = generics_outcome setting before part.with (Some part.type) element
  outcome_at part magic.Body = body_outcome setting before part.with (Some part.type) element
  outcome_at part magic.Ty = Value (ty_value element)
  outcome_at part magic.Discriminant = Value (discriminant_value element)
  outcome_at part magic.Fields = body_outcome setting before part.with (Some part.type) element
  outcome_at part magic.Bounds = Value (bounds_value element)
  outcome_at part magic.Default = Value (default_value element)

  abbrev pub part_outcome : PartDecl → Outcome Datum
  part_outcome part = outcome_at part part.what

  abbrev pub part_value : PartDecl → Datum
  part_value part = unwrap_or (value_of (part_outcome part)) no_value

  -- the faults of the parts that are such
  abbrev pub part_faults : (Magic → Bool) → List PartDecl → List Fault
  part_faults is_such parts = flat_map (λ part. cond (is_such part.what) (faults_of (part_outcome part)) []) parts

  -- those of the shape, else those of the body
  abbrev pub body_faults : List PartDecl → List Fault → List Fault
  body_faults parts [] = part_faults is_body parts
  body_faults parts (fault ∷ more) = fault ∷ more

  -- what is wrong with the element but for its items: of the attributes that are kept, then of its shape or its body, then of its
  -- generics
  abbrev pub element_faults : List PartDecl → List Fault
  element_faults parts =
      part_faults is_attrs parts ++ (body_faults parts (shape_faults it.shapes element) ++ part_faults is_generics parts)

  -- the default of the declaration, which may be made from the identifier of the element
  abbrev pub own_default : Outcome Datum
  own_default = cond it.from_ident (from_ident setting it.type element) (whole_default setting it.type it.default)

  -- the struct of all members; what is wrong with the identifier comes alone
  abbrev pub built_members : Style → List Member → List Entry → Datum → Outcome Datum
  built_members how members entries whole =
      settle (part_faults is_ident (element_parts members))
      (on_value (λ values. value.Struct it.name how (woven part_value members values))
      (field_values setting (metas before) (items_decl it members) whole entries))

  -- all faults, else the struct behind the default and the transform of the declaration
  abbrev pub members_meaning : Style → List Member → List Entry → Outcome Datum
  members_meaning how members entries =
      settle (collected_with setting (metas before) (items_decl it members) (element_faults (element_parts members)) entries)
      (transformed setting (metas before) it.transform it.type (bind own_default (built_members how members entries)))

  abbrev pub form_meaning : OuterForm → Outcome Datum
  form_meaning (ByMembers how members) = members_meaning how members (named_entries it.attributes (attributes_of element))
  form_meaning (AsOne member type) =
      transformed setting (metas before) it.transform it.type (on_value (alone it.name member) (outer setting before type element))

  -- what the element means
  abbrev pub element_meaning : Outcome Datum
  element_meaning = form_meaning it.form
