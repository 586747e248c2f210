-- What items, and a text, mean under an enum.
use Rattle.std.specs.Prelude.{List, [], ◌∷◌, ◌++◌, map, Option, Some, None, if◌then◌else◌, codes}
use Rattle.std.specs.Str.{bytes_eq}
use Rattle.base_core.specs.declared.text.Text.{Text}
use Rattle.node_core.specs.declared.attr.Meta.{Meta}
use Rattle.node_core.specs.declared.attr.Meta.TheVariants as meta
use Rattle.node_core.specs.declared.style.Style.TheVariants as style
use Rattle.error_fault.specs.Fault.{at_span}
use Rattle.error_fault.specs.Faults.{at}
use Rattle.error_fault.specs.Kind.{set_of}
use Rattle.error_fault.specs.Outcome.{Outcome, Value, Faults, bind, on_value, refused, settle, under}
use Rattle.error_fault.specs.declared.fault.Fault.{Fault}
use Rattle.error_fault.specs.declared.kind.FaultKind.TheVariants.{TooFewItems, TooManyItems, UnexpectedFormat, UnknownField, UnknownValue}
use Rattle.meta_entries.specs.declared.entry.Entry.TheVariants as entry
use Rattle.machine_value.specs.Members.{labelled, no_value}
use Rattle.machine_value.specs.declared.value.Value.{Value as Datum}
use Rattle.machine_value.specs.declared.value.Value.TheVariants as value
use Rattle.machine_steps.specs.Building.{one_member, one_style}
use Rattle.machine_steps.specs.Convert.{Earlier, cells, none}
use Rattle.machine_steps.specs.Dispatch.{from_meta, items_of}
use Rattle.machine_steps.specs.Names.{meta_name}
use Rattle.machine_steps.specs.NestedMeta.{NestedMeta}
use Rattle.machine_steps.specs.NestedMeta.TheVariants as nested
use Rattle.machine_steps.specs.Nodes.{nested_span}
use Rattle.machine_steps.specs.Setting.{Setting}
use Rattle.meaning_core.specs.Decl.{BodyDecl, Flat, Many, Shape, Single}
use Rattle.meaning_core.specs.EntryFaults.{all_entry_faults}
use Rattle.meaning_core.specs.FieldValue.{field_value, missing}
use Rattle.meaning_core.specs.Meaning.{in_order, joined}
use Rattle.meaning_core.specs.Owners.{each, own}
use Rattle.meaning_core.specs.Receivers.{Bare, ByFields, Form, VariantDecl, Whole}

-- something of another format than is read
abbrev pub other_format : Text → Outcome Datum
other_format it = refused (UnexpectedFormat it)

-- in a variant a flattened field counts as one without an item: what no other field takes is dropped
abbrev pub as_single : Shape → Shape
as_single Single = Single
as_single Many = Many
as_single Flat = Single

-- the first variant of the name
abbrev pub variant_named : List VariantDecl → Text → Option VariantDecl
variant_named [] name = None
variant_named (it ∷ variants) name = if bytes_eq it.name name then Some it else variant_named variants name

-- the names of variants
abbrev pub variant_names : List VariantDecl → List Text
variant_names variants = map (λ it. it.name) variants

module _ (setting : Setting) (earlier : Earlier) where
  -- the faults of the items of a variant, and then of its missing fields
  abbrev pub collected_in : BodyDecl → List NestedMeta → List Fault
  collected_in body items =
      all_entry_faults setting earlier body [] (map entry.Item items)
      ++ joined (each (λ field own_items. missing setting earlier body field (as_single field.shape) own_items) body.fields (own body.fields items))

  -- the values of all fields of a variant, in order
  abbrev pub values_in : BodyDecl → List NestedMeta → Outcome (List Datum)
  values_in body items =
      in_order (each (λ field own_items. field_value setting earlier body no_value items field (as_single field.shape) own_items) body.fields (own body.fields items))

  module _ (enum : Text) where
    -- the variant of these members
    abbrev pub variant_of : VariantDecl → BodyDecl → List Datum → Datum
    variant_of it body values = value.Variant enum it.ident style.Struct (labelled (map (λ field. field.member) body.fields) values)

    -- the items of the list of a variant: the faults stand under its name, but those of a default don't
    abbrev pub fields_meaning : VariantDecl → BodyDecl → List NestedMeta → Outcome Datum
    fields_meaning it body items = settle (at (collected_in body items) it.name) (on_value (variant_of it body) (values_in body items))

    -- the variant without members
    abbrev pub bare_variant : VariantDecl → Datum
    bare_variant it = value.Variant enum it.ident style.Unit []

    -- the variant of one member
    abbrev pub whole_variant : VariantDecl → Text → Datum → Datum
    whole_variant it member inner = value.Variant enum it.ident (one_style member) (one_member member inner)

    -- a variant by its form: a word, what its one member's type reads, or the items of a list. Faults of the list's tokens don't
    -- stand under its name
    abbrev pub form_meaning : VariantDecl → Form → Meta → Outcome Datum
    form_meaning it Bare (meta.Path path) = Value (bare_variant it)
    form_meaning it Bare (meta.«List» list) = other_format (codes "non-path")
    form_meaning it Bare (meta.NameValue pair) = other_format (codes "non-path")
    form_meaning it (Whole member type) item = on_value (whole_variant it member) (under it.name (from_meta (cells setting earlier type) item))
    form_meaning it (ByFields body) (meta.«List» list) = bind (items_of list.tokens) (fields_meaning it body)
    form_meaning it (ByFields body) (meta.Path path) = other_format (codes "non-list")
    form_meaning it (ByFields body) (meta.NameValue pair) = other_format (codes "non-list")

    -- the variant of one member, where its type has a value without an item
    abbrev pub none_meaning : VariantDecl → Text → Option Datum → Outcome Datum
    none_meaning it member (Some inner) = Value (whole_variant it member inner)
    none_meaning it member None = other_format (codes "literal")

    -- a variant that a text names, by its form
    abbrev pub text_form : VariantDecl → Form → Outcome Datum
    text_form it Bare = Value (bare_variant it)
    text_form it (Whole member type) = none_meaning it member (none setting earlier type)
    text_form it (ByFields body) = other_format (codes "literal")

    module _ (variants : List VariantDecl) where
      -- an item by the variant that it names, if there is one
      abbrev pub named_meaning : Meta → Option VariantDecl → Outcome Datum
      named_meaning item None = Faults (at_span (UnknownField (meta_name item) (set_of (variant_names variants))) (nested_span (nested.Meta item))) []
      named_meaning item (Some it) = form_meaning it it.form item

      -- an item that is no meta names none
      abbrev pub item_meaning : NestedMeta → Outcome Datum
      item_meaning (nested.Meta item) = named_meaning item (variant_named variants (meta_name item))
      item_meaning (nested.Lit it) = other_format (codes "literal")
      item_meaning (nested.NameValueInvalidExpr it) = other_format (codes "literal")

      -- a list has one item
      abbrev pub variants_meaning : List NestedMeta → Outcome Datum
      variants_meaning [] = refused (TooFewItems 1)
      variants_meaning (item ∷ []) = item_meaning item
      variants_meaning (item ∷ other ∷ more) = refused (TooManyItems 1)

      abbrev pub text_named : Text → Option VariantDecl → Outcome Datum
      text_named text None = refused (UnknownValue text (set_of (variant_names variants)))
      text_named text (Some it) = text_form it it.form

      -- the text of a string names a variant
      abbrev pub text_meaning : Text → Outcome Datum
      text_meaning text = text_named text (variant_named variants text)
