-- How each kind of options reads a declaration: its stages, its faults, and what it leaves.
use Rattle.std.specs.Prelude.{List, [], ◌++◌, flat_map, Option, Some, None}
use Rattle.node_core.specs.declared.attr.Meta.{Meta}
use Rattle.node_core.specs.declared.data.Field.{Field}
use Rattle.node_core.specs.declared.data.Variant.{Variant}
use Rattle.node_core.specs.declared.data.«Data».{«Data»}
use Rattle.node_core.specs.declared.data.«Data».TheVariants as body
use Rattle.node_core.specs.declared.derive.DeriveInput.{DeriveInput}
use Rattle.error_fault.specs.Outcome.{Outcome, Value, bind, faults_of, value_of, settle}
use Rattle.error_fault.specs.declared.fault.Fault.{Fault}
use Rattle.options_rows.specs.Entries.{items, option_entries}
use Rattle.options_rows.specs.Members.{body_fields, read_body, variants_of, field_or, variant_or}
use Rattle.node_core.specs.Bodies.{field_list, is_union}
use Rattle.options_rows.specs.Rows.{else_faults, list_of}
use Rattle.options_rows.specs.Values.{Rules}
use Rattle.options_rows.specs.Walk.{all_faults, read_options}
use Rattle.options_members.specs.declared.container.Core.{Core}
use Rattle.options_meta.specs.declared.from_meta.FromMetaOptions.{FromMetaOptions}
use Rattle.options_members.specs.declared.input_field.InputField.{InputField}
use Rattle.options_members.specs.declared.input_variant.InputVariant.{InputVariant}
use Rattle.options_meta.specs.MetaOptions.{of_meta, of_meta_faults}
use Rattle.options_members.specs.Body.{core_with, core_with_variants, field_meaning, union_faults, variant_meaning}
use Rattle.options_meta.specs.MetaChecks.{meta_checks, meta_start, meta_takes, meta_takes_variant}

-- the fields without fault under this container, in order
abbrev pub good_fields : Rules → Core → List Field → List InputField
good_fields rules core fields = flat_map (λ field. list_of (value_of (field_meaning rules (Some core) field))) fields

-- what is wrong with a field under this container
abbrev pub field_faults : Rules → Core → Field → List Fault
field_faults rules core field = faults_of (field_meaning rules (Some core) field)

-- the variants without fault under this container, in order
abbrev pub good_variants : Rules → Core → List Variant → List InputVariant
good_variants rules core variants = flat_map (λ variant. list_of (value_of (variant_meaning rules (Some core) variant))) variants

-- what is wrong with a variant under this container
abbrev pub variant_faults : Rules → Core → Variant → List Fault
variant_faults rules core variant = faults_of (variant_meaning rules (Some core) variant)

-- the container with those members of the body that have no fault
abbrev pub core_with_body : Rules → Core → «Data» → Core
core_with_body rules core (body.Struct it) = core_with core (good_fields rules core (field_list it.fields))
core_with_body rules core (body.Enum it) = core_with_variants core (good_variants rules core it.variants)
core_with_body rules core (body.Union it) = core

-- a kind of options: where they begin, what stands behind items, what is wrong with an item behind what stands, what is
-- wrong with a field or a variant under the container's options, what stands behind the body, what is checked of it, and
-- what is checked last
pub record Reader (S : Type 0) : Type 0 where
  pub start : S
  pub options : S → List Meta → S
  pub item_faults : S → Meta → List Fault
  pub field_faults : S → Field → List Fault
  pub variant_faults : S → Variant → List Fault
  pub with_body : S → «Data» → S
  pub checks : S → List Fault
  pub last : S → List Fault

abbrev pub meta_reader : Rules → DeriveInput → Reader FromMetaOptions
meta_reader rules input = record {
  start = meta_start rules input;
  options = of_meta rules;
  item_faults = of_meta_faults rules;
  field_faults = λ set. field_faults rules set.base;
  variant_faults = λ set. variant_faults rules set.base;
  with_body = λ set it. record set { base = core_with_body rules set.base it };
  checks = meta_checks;
  last = λ set. [];
}

module _ {S : Type 0} (reader : Reader S) (input : DeriveInput) where
  -- the options of the container
  abbrev pub container_options : S
  container_options = reader.options reader.start (items (option_entries input.attrs))

  -- what the options of a declaration are, where nothing is wrong with them
  abbrev pub options_of : S
  options_of = reader.with_body container_options input.body

  -- what is wrong with the members, and with what they leave
  abbrev pub body_faults : List Fault
  body_faults =
      flat_map (reader.field_faults container_options) (body_fields input.body)
      ++ flat_map (reader.variant_faults container_options) (variants_of input.body)
      ++ reader.checks options_of

  -- what is wrong with a declaration: a later stage counts only where nothing is wrong with the earlier
  abbrev pub option_faults : List Fault
  option_faults =
      else_faults (union_faults (is_union input.body))
      (else_faults (all_faults reader.options reader.item_faults reader.start [] (option_entries input.attrs))
      (else_faults body_faults (reader.last options_of)))

  -- what the options of a declaration are: all that is wrong, else the options
  abbrev pub new_outcome : Outcome S
  new_outcome = settle option_faults (Value options_of)

-- the same one stage behind another, as they are read
abbrev pub staged : {S : Type 0} → Reader S → (S → Field → Outcome S) → (S → Variant → Outcome S) → DeriveInput → Outcome S
staged reader takes_field takes_variant input =
    bind (settle (union_faults (is_union input.body)) (Value reader.start))
    (λ start. bind (read_options reader.options reader.item_faults start (option_entries input.attrs))
    (λ set. read_body takes_field takes_variant reader.checks set input.body))

-- the same with what is checked last
abbrev pub staged_whole : {S : Type 0} → Reader S → (S → Field → Outcome S) → (S → Variant → Outcome S) → DeriveInput → Outcome S
staged_whole reader takes_field takes_variant input =
    bind (staged reader takes_field takes_variant input) (λ whole. settle (reader.last whole) (Value whole))

-- the members that `FromMeta` takes
abbrev pub meta_own : Rules → FromMetaOptions → Field → Option (Outcome FromMetaOptions)
meta_own rules set field = Some (meta_takes rules set field)

abbrev pub meta_own_variant : Rules → FromMetaOptions → Variant → Option (Outcome FromMetaOptions)
meta_own_variant rules set variant = Some (meta_takes_variant rules set variant)

-- no kind but that takes variants
abbrev pub no_variants : {S : Type 0} → Rules → S → Variant → Option (Outcome S)
no_variants rules set variant = None

abbrev pub meta_staged : Rules → DeriveInput → Outcome FromMetaOptions
meta_staged rules input = staged (meta_reader rules input) (field_or meta_own rules) (variant_or meta_own_variant rules) input
