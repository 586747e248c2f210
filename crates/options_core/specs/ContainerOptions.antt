-- The options of a container: their tables, the faults of an item behind what is set, and what stands behind items.
use Rattle.std.specs.Prelude.{ℕ, ◌==◌, Bool, true, List, [], ◌∷◌, ◌++◌, map, codes, Option, Some}
use Rattle.base_core.specs.declared.text.Text.{Text}
use Rattle.tok_types.specs.declared.span.Span.{Span}
use Rattle.node_core.specs.Meta.{path_of_meta}
use Rattle.node_core.specs.declared.attr.Meta.{Meta}
use Rattle.node_span.specs.Spanned.{path_span}
use Rattle.error_fault.specs.Outcome.{Outcome, Value, on_value}
use Rattle.error_fault.specs.declared.fault.Fault.{Fault}
use Rattle.options_rows.specs.DefaultExpression.{DefaultExpression}
use Rattle.options_rows.specs.DefaultExpression.TheVariants.{Trait}
use Rattle.options_rows.specs.Rows.{last_of, Named, values, OptionRow, last_stands, name_in, row_in, row_faults}
use Rattle.options_rows.specs.Values.{Rules, forward_of, paths_of, shapes_of, variant_shapes_of, word_of}
use Rattle.options_members.specs.declared.container.Core.{Core}
use Rattle.options_core.specs.declared.outer_from.OuterFrom.{OuterFrom}
use Rattle.options_core.specs.declared.from_attributes.FromAttributesOptions.{FromAttributesOptions}
use Rattle.options_core.specs.declared.from_derive.FdiOptions.{FdiOptions}
use Rattle.options_core.specs.declared.from_field.FromFieldOptions.{FromFieldOptions}
use Rattle.options_core.specs.declared.from_type_param.FromTypeParamOptions.{FromTypeParamOptions}
use Rattle.options_core.specs.declared.from_variant.FromVariantOptions.{FromVariantOptions}
use Rattle.options_members.specs.declared.names.CoreName.{CoreName}
use Rattle.options_core.specs.declared.names.OuterName.{OuterName}
use Rattle.options_core.specs.declared.names.OuterName.TheVariants.{Attributes, ForwardAttrs, FromIdent}
use Rattle.options_core.specs.declared.names.OuterName.TheVariants as outer
use Rattle.options_core.specs.declared.names.FdiName.{FdiName}
use Rattle.options_core.specs.declared.names.FdiName.TheVariants.{Supports}
use Rattle.options_core.specs.declared.names.FdiName.TheVariants as fdi
use Rattle.options_core.specs.declared.names.FromVariantName.{FromVariantName}
use Rattle.options_core.specs.declared.names.FromVariantName.TheVariants as variant
use Rattle.options_members.specs.CoreOptions.{core_faults, core_name_of, core_options}

-- under an outer derive

abbrev pub outer_number : OuterName → ℕ
outer_number Attributes = 0
outer_number ForwardAttrs = 1
outer_number FromIdent = 2
outer_number (outer.Core name) = 3

abbrev pub same_outer : OuterName → OuterName → Bool
same_outer a b = outer_number a == outer_number b

-- no value is read
abbrev pub from_ident_of : Meta → Outcome Span
from_ident_of item = Value (path_span (path_of_meta item))

abbrev pub outer_table : List (OptionRow OuterFrom OuterName)
outer_table =
    last_stands Attributes (codes "attributes") paths_of
    ∷ last_stands ForwardAttrs (codes "forward_attrs") forward_of
    ∷ last_stands FromIdent (codes "from_ident") from_ident_of
    ∷ []

abbrev pub outer_faults : Rules → OuterName → OuterFrom → Meta → List Fault
outer_faults rules (outer.Core name) set item = core_faults rules name set.container item
outer_faults rules name set item = row_faults (row_in same_outer outer_table name) set item

abbrev pub core_item : OuterName → Meta → List (Named CoreName)
core_item (outer.Core name) item = record { name = name; item = item } ∷ []
core_item name item = []

-- the items of the options of every container
abbrev pub core_items : List (Named OuterName) → List (Named CoreName)
core_items [] = []
core_items (it ∷ items) = core_item it.name it.item ++ core_items items

abbrev pub trait_at : Span → Option DefaultExpression
trait_at span = Some (Trait span)

-- `from_ident` takes the place of a `default`
abbrev pub replaced : Core → List Span → Core
replaced core spans = record core { default = last_of core.default (map trait_at spans) }

abbrev pub outer_options : Rules → OuterFrom → List (Named OuterName) → OuterFrom
outer_options rules set items = record set {
  container = replaced (core_options rules set.container (core_items items)) (values (same_outer FromIdent) from_ident_of items);
  attr_names = last_of set.attr_names (values (same_outer Attributes) paths_of items);
  forward_attrs = last_of set.forward_attrs (values (same_outer ForwardAttrs) (λ item. on_value Some (forward_of item)) items);
  from_ident = last_of set.from_ident (values (same_outer FromIdent) (λ item. Value true) items);
}

-- under `FromDeriveInput`

abbrev pub fdi_number : FdiName → ℕ
fdi_number Supports = 0
fdi_number (fdi.Outer name) = 1

abbrev pub same_fdi : FdiName → FdiName → Bool
same_fdi a b = fdi_number a == fdi_number b

abbrev pub fdi_table : List (OptionRow FdiOptions FdiName)
fdi_table = last_stands Supports (codes "supports") shapes_of ∷ []

abbrev pub fdi_faults : Rules → FdiName → FdiOptions → Meta → List Fault
fdi_faults rules (fdi.Outer name) set item = outer_faults rules name set.base item
fdi_faults rules name set item = row_faults (row_in same_fdi fdi_table name) set item

abbrev pub outer_item : FdiName → Meta → List (Named OuterName)
outer_item (fdi.Outer name) item = record { name = name; item = item } ∷ []
outer_item Supports item = []

-- the items of the options of every outer derive
abbrev pub outer_items : List (Named FdiName) → List (Named OuterName)
outer_items [] = []
outer_items (it ∷ items) = outer_item it.name it.item ++ outer_items items

abbrev pub fdi_options : Rules → FdiOptions → List (Named FdiName) → FdiOptions
fdi_options rules set items = record set {
  base = outer_options rules set.base (outer_items items);
  supports = last_of set.supports (values (same_fdi Supports) (λ item. on_value Some (shapes_of item)) items);
}

-- under `FromVariant`

abbrev pub from_variant_number : FromVariantName → ℕ
from_variant_number variant.Supports = 0
from_variant_number (variant.Outer name) = 1

abbrev pub same_from_variant : FromVariantName → FromVariantName → Bool
same_from_variant a b = from_variant_number a == from_variant_number b

abbrev pub from_variant_table : List (OptionRow FromVariantOptions FromVariantName)
from_variant_table = last_stands variant.Supports (codes "supports") variant_shapes_of ∷ []

abbrev pub from_variant_faults : Rules → FromVariantName → FromVariantOptions → Meta → List Fault
from_variant_faults rules (variant.Outer name) set item = outer_faults rules name set.base item
from_variant_faults rules name set item = row_faults (row_in same_from_variant from_variant_table name) set item

abbrev pub variant_outer_item : FromVariantName → Meta → List (Named OuterName)
variant_outer_item (variant.Outer name) item = record { name = name; item = item } ∷ []
variant_outer_item variant.Supports item = []

-- the items of the options of every outer derive
abbrev pub variant_outer_items : List (Named FromVariantName) → List (Named OuterName)
variant_outer_items [] = []
variant_outer_items (it ∷ items) = variant_outer_item it.name it.item ++ variant_outer_items items

abbrev pub from_variant_options : Rules → FromVariantOptions → List (Named FromVariantName) → FromVariantOptions
from_variant_options rules set items = record set {
  base = outer_options rules set.base (variant_outer_items items);
  supports = last_of set.supports (values (same_from_variant variant.Supports) (λ item. on_value Some (variant_shapes_of item)) items);
}

-- the option that a word is
abbrev pub outer_name_of : Text → OuterName
outer_name_of word = name_in outer_table (outer.Core (core_name_of word)) word

abbrev pub fdi_name_of : Text → FdiName
fdi_name_of word = name_in fdi_table (fdi.Outer (outer_name_of word)) word

abbrev pub from_variant_name_of : Text → FromVariantName
from_variant_name_of word = name_in from_variant_table (variant.Outer (outer_name_of word)) word

-- what stands behind items, and what is wrong with one

abbrev pub outer_named : Meta → Named OuterName
outer_named item = record { name = outer_name_of (word_of (path_of_meta item)); item = item }

abbrev pub of_outer : Rules → OuterFrom → List Meta → OuterFrom
of_outer rules set items = outer_options rules set (map outer_named items)

abbrev pub of_outer_faults : Rules → OuterFrom → Meta → List Fault
of_outer_faults rules set item = outer_faults rules (outer_name_of (word_of (path_of_meta item))) set item

abbrev pub fdi_named : Meta → Named FdiName
fdi_named item = record { name = fdi_name_of (word_of (path_of_meta item)); item = item }

abbrev pub of_fdi : Rules → FdiOptions → List Meta → FdiOptions
of_fdi rules set items = fdi_options rules set (map fdi_named items)

abbrev pub of_fdi_faults : Rules → FdiOptions → Meta → List Fault
of_fdi_faults rules set item = fdi_faults rules (fdi_name_of (word_of (path_of_meta item))) set item

abbrev pub from_variant_named : Meta → Named FromVariantName
from_variant_named item = record { name = from_variant_name_of (word_of (path_of_meta item)); item = item }

abbrev pub of_from_variant : Rules → FromVariantOptions → List Meta → FromVariantOptions
of_from_variant rules set items = from_variant_options rules set (map from_variant_named items)

abbrev pub of_from_variant_faults : Rules → FromVariantOptions → Meta → List Fault
of_from_variant_faults rules set item = from_variant_faults rules (from_variant_name_of (word_of (path_of_meta item))) set item

-- the others have no options of their own

abbrev pub of_attributes : Rules → FromAttributesOptions → List Meta → FromAttributesOptions
of_attributes rules set items = record set { base = of_outer rules set.base items }

abbrev pub of_from_field : Rules → FromFieldOptions → List Meta → FromFieldOptions
of_from_field rules set items = record set { base = of_outer rules set.base items }

abbrev pub of_type_param : Rules → FromTypeParamOptions → List Meta → FromTypeParamOptions
of_type_param rules set items = record set { base = of_outer rules set.base items }
