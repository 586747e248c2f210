-- What fields and variants mean under a container, what is checked of a container, and where options begin.
use Rattle.std.specs.Prelude.{ℕ, ◌==◌, ◌&&◌, nat_lt, Bool, true, false, not, cond, List, [], ◌∷◌, ◌++◌, length, flat_map, map, codes, Option, Some, None, is_some, unwrap_or}
use Rattle.base_core.specs.declared.text.Text.{Text}
use Rattle.tok_types.specs.Ident.{ident_text}
use Rattle.tok_types.specs.declared.ident.Ident.{Ident}
use Rattle.tok_types.specs.declared.span.Span.{Span}
use Rattle.tok_types.specs.declared.span.Span.TheVariants.{CallSite}
use Rattle.node_core.specs.Bodies.{field_list}
use Rattle.node_core.specs.Style.{style_of}
use Rattle.node_core.specs.declared.data.Field.{Field}
use Rattle.node_core.specs.declared.data.Variant.{Variant}
use Rattle.node_core.specs.declared.data.«Data».{«Data» as NodeData}
use Rattle.node_core.specs.declared.data.«Data».TheVariants as node
use Rattle.node_core.specs.declared.derive.DeriveInput.{DeriveInput}
use Rattle.node_core.specs.declared.style.Style.{Style}
use Rattle.node_core.specs.declared.style.Style.TheVariants as style
use Rattle.error_fault.specs.Fault.{at_span, plain}
use Rattle.error_fault.specs.Outcome.{Outcome, bind, on_value}
use Rattle.error_fault.specs.declared.fault.Fault.{Fault}
use Rattle.error_fault.specs.declared.kind.FaultKind.TheVariants.{Custom}
use Rattle.error_core.specs.Each.{each}
use Rattle.options_rows.specs.Table.{renamed}
use Rattle.options_rows.specs.Table as names
use Rattle.options_rows.specs.RenameKind.{RenameKind}
use Rattle.options_rows.specs.RenameKind.TheVariants as kinds
use Rattle.options_rows.specs.RenameRule.{RenameRule}
use Rattle.options_rows.specs.RenameRule.TheVariants.{Keep}
use Rattle.body_core.specs.Data.{no_unions, unplaced, with_members}
use Rattle.body_core.specs.declared.ast.data.«Data».{«Data»}
use Rattle.body_core.specs.declared.ast.data.«Data».TheVariants as container
use Rattle.options_rows.specs.DefaultExpression.{DefaultExpression}
use Rattle.options_rows.specs.DefaultExpression.TheVariants.{Inherit, Trait}
use Rattle.options_rows.specs.SpannedValue.{SpannedValue}
use Rattle.options_rows.specs.Entries.{option_entries}
use Rattle.options_rows.specs.Rows.{list_of}
use Rattle.options_rows.specs.Values.{Rules}
use Rattle.options_rows.specs.Walk.{read_options}
use Rattle.options_members.specs.declared.container.Core.{Core}
use Rattle.options_members.specs.declared.input_field.InputField.{InputField}
use Rattle.options_members.specs.declared.input_variant.InputVariant.{InputVariant}
use Rattle.options_members.specs.FieldOptions.{of_field, of_field_faults}
use Rattle.options_members.specs.VariantOptions.{of_variant, of_variant_faults}

-- a field

-- the identifier of a field that has none
abbrev pub unnamed : Ident
unnamed = record { text = codes "__unnamed"; raw = false; span = CallSite }

abbrev pub field_ident : Field → Ident
field_ident field = unwrap_or field.ident unnamed

-- a field that has no option
abbrev pub field_start : Field → InputField
field_start field = record {
  ident = field_ident field;
  attr_name = None;
  name = ident_text (field_ident field);
  ty = field.ty;
  default = None;
  with = None;
  skip = None;
  post_transform = None;
  multiple = None;
  flatten = record { 0 = None };
}

-- its own name, else the identifier under the container's rule for members of this kind
abbrev pub named_under : RenameKind → Rules → Option Core → Text → Option Text → Text
named_under kind rules parent ident (Some name) = name
named_under kind rules None ident None = ident
named_under kind rules (Some core) ident None = renamed rules core.rename_rule kind ident

abbrev pub named_by : Rules → Option Core → Text → Option Text → Text
named_by rules parent ident own = named_under kinds.Field rules parent ident own

abbrev pub variant_named_by : Rules → Option Core → Text → Option Text → Text
variant_named_by rules parent ident own = named_under kinds.Variant rules parent ident own

-- a field that is skipped has the default of its type
abbrev pub skip_default : Option (SpannedValue Bool) → Option DefaultExpression
skip_default None = None
skip_default (Some skip) = cond skip.value (Some (Trait skip.span)) None

-- its own default, else that of the container, else the type's where it is skipped
abbrev pub default_by : Option DefaultExpression → Option DefaultExpression → Option (SpannedValue Bool) → Option DefaultExpression
default_by (Some own) parent skip = Some own
default_by None (Some parent) skip = Some Inherit
default_by None None skip = skip_default skip

-- no default is taken over where there is no container
abbrev pub parent_default : Option Core → InputField → Option DefaultExpression
parent_default None field = field.default
parent_default (Some core) field = default_by field.default core.default field.skip

abbrev pub inherited : Rules → Option Core → InputField → InputField
inherited rules parent field = record field {
  name = named_by rules parent (ident_text field.ident) field.attr_name;
  default = parent_default parent field;
}

-- what a field means in this container
unfoldable pub field_meaning : Rules → Option Core → Field → Outcome InputField
field_meaning rules parent field =
    on_value (inherited rules parent) (read_options of_field of_field_faults (field_start field) (option_entries field.attrs))

-- a variant

-- a variant that has no option, and of which no field is read yet
abbrev pub variant_start : Variant → InputVariant
variant_start variant = record {
  ident = variant.ident;
  attr_name = None;
  name = ident_text variant.ident;
  body = unplaced (style_of variant.fields) [];
  skip = None;
  word = None;
  allow_unknown_fields = None;
  transparent = record { 0 = None };
}

-- what the container says of items that are for no field
abbrev pub parent_allows : Option Core → Option Bool
parent_allows None = None
parent_allows (Some core) = core.allow_unknown_fields

abbrev pub variant_inherited : Rules → Option Core → InputVariant → InputVariant
variant_inherited rules parent variant = record variant {
  name = variant_named_by rules parent (ident_text variant.ident) variant.attr_name;
  allow_unknown_fields = parent_allows parent;
}

-- a variant of these fields
abbrev pub variant_with : InputVariant → List InputField → InputVariant
variant_with variant fields = record variant { body = with_members variant.body fields }

-- what options leave of a variant in this container: each of its fields, else what is wrong with the first that has a fault
abbrev pub variant_members : Rules → Option Core → List Field → InputVariant → Outcome InputVariant
variant_members rules parent fields set = on_value (variant_with (variant_inherited rules parent set)) (each (field_meaning rules parent) fields)

-- what a variant means in this container: what is wrong with its options, else what is wrong with its first faulty field
unfoldable pub variant_meaning : Rules → Option Core → Variant → Outcome InputVariant
variant_meaning rules parent variant =
    bind (read_options of_variant of_variant_faults (variant_start variant) (option_entries variant.attrs))
    (variant_members rules parent (field_list variant.fields))

-- a container

-- a container's body: of an enum the variants, of a struct the fields, which are members of no place
abbrev pub Body : Type 0
Body = «Data» InputVariant InputField

-- a body with these fields too; that of an enum keeps none
abbrev pub with_fields : Body → List InputField → Body
with_fields (container.Enum variants) fields = container.Enum variants
with_fields (container.Struct it) fields = container.Struct (with_members it (it.fields ++ fields))

abbrev pub core_with : Core → List InputField → Core
core_with core fields = record core { body = with_fields core.body fields }

-- a body with these variants too; that of a struct keeps none
abbrev pub with_variants : Body → List InputVariant → Body
with_variants (container.Enum variants) more = container.Enum (variants ++ more)
with_variants (container.Struct it) more = container.Struct it

abbrev pub core_with_variants : Core → List InputVariant → Core
core_with_variants core variants = record core { body = with_variants core.body variants }

-- what a field leaves of a container
abbrev pub core_takes : Rules → Core → Field → Outcome Core
core_takes rules core field = on_value (λ it. core_with core (it ∷ [])) (field_meaning rules (Some core) field)

-- what a variant leaves of a container
abbrev pub core_takes_variant : Rules → Core → Variant → Outcome Core
core_takes_variant rules core variant =
    on_value (λ it. core_with_variants core (it ∷ [])) (variant_meaning rules (Some core) variant)

-- checks

unfoldable pub not_single : Span → Fault
not_single span = at_span (Custom (codes "`#[darling(transparent)]` can only be applied to structs with a single field")) span

unfoldable pub not_alone : Span → Fault
not_alone span = at_span (Custom (codes "`#[darling(flatten)]` can only be applied to one field")) span

-- `transparent` on a struct of more fields or of none
abbrev pub transparent_faults : Option Span → ℕ → List Fault
transparent_faults None count = []
transparent_faults (Some span) count = cond (count == 1) [] (not_single span ∷ [])

-- where `flatten` stands
abbrev pub flat_spans : List InputField → List Span
flat_spans fields = flat_map (λ field. list_of field.flatten.0) fields

-- several of them
abbrev pub flatten_faults : List Span → List Fault
flatten_faults spans = cond (nat_lt 1 (length spans)) (map not_alone spans) []

abbrev pub body_checks : Option Span → Body → List Fault
body_checks transparent (container.Enum variants) = []
body_checks transparent (container.Struct it) = transparent_faults transparent (length it.fields) ++ flatten_faults (flat_spans it.fields)

-- of every container
abbrev pub core_checks : Core → List Fault
core_checks core = body_checks core.transparent.0 core.body

-- a struct that is read as its one field is: a tuple of one, or one with names that says so
abbrev pub is_delegated : Style → ℕ → Option Span → Bool
is_delegated style.Tuple count transparent = count == 1
is_delegated style.Struct count transparent = is_some transparent
is_delegated style.Unit count transparent = false

abbrev pub is_unit : Style → Bool
is_unit style.Tuple = false
is_unit style.Struct = false
is_unit style.Unit = true

-- a variant is skipped where it says so
abbrev pub is_skipped_variant : InputVariant → Bool
is_skipped_variant variant = unwrap_or variant.skip false

-- a unit variant that is read
abbrev pub is_read_unit : InputVariant → Bool
is_read_unit variant = is_unit variant.body.style && not (is_skipped_variant variant)

-- where options begin

-- a union has no options
abbrev pub union_faults : Bool → List Fault
union_faults false = []
union_faults true = plain no_unions ∷ []

-- no members; a union has no body
abbrev pub start_body : NodeData → Body
start_body (node.Struct it) = container.Struct (unplaced (style_of it.fields) [])
start_body (node.Enum it) = container.Enum []
start_body (node.Union it) = container.Enum []

-- variants are named by the rule `snake_case`, where the table has it
abbrev pub start_rule : Rules → NodeData → RenameRule
start_rule rules (node.Struct it) = Keep
start_rule rules (node.Enum it) = unwrap_or (names.rule_of rules (codes "snake_case")) Keep
start_rule rules (node.Union it) = Keep

abbrev pub core_start : Rules → DeriveInput → Core
core_start rules input = record {
  ident = input.ident;
  generics = input.generics;
  default = None;
  rename_rule = start_rule rules input.body;
  krate = None;
  post_transform = None;
  body = start_body input.body;
  bound = None;
  allow_unknown_fields = None;
  transparent = record { 0 = None };
}
