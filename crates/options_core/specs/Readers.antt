-- How each receiver of elements reads a declaration: its stages, its faults, and what it leaves.
use Rattle.std.specs.Prelude.{List, [], ◌∷◌, Option, Some}
use Rattle.node_core.specs.declared.attr.Meta.{Meta}
use Rattle.node_core.specs.declared.data.Field.{Field}
use Rattle.node_core.specs.declared.derive.DeriveInput.{DeriveInput}
use Rattle.error_fault.specs.Outcome.{Outcome}
use Rattle.error_fault.specs.declared.fault.Fault.{Fault}
use Rattle.codegen_program.specs.declared.forwarded.Magic.TheVariants as magic
use Rattle.codegen_program.specs.declared.program.Derive.{Derive}
use Rattle.codegen_program.specs.declared.program.Derive.TheVariants.{FromAttributes, FromDeriveInput, FromField, FromTypeParam, FromVariant}
use Rattle.options_rows.specs.Members.{body_fields, no_variant, field_or, variant_or}
use Rattle.options_rows.specs.Values.{Rules}
use Rattle.options_members.specs.Body.{core_with}
use Rattle.options_meta.specs.Stages.{Reader, good_fields, no_variants, staged, staged_whole}
use Rattle.options_core.specs.declared.from_attributes.FromAttributesOptions.{FromAttributesOptions}
use Rattle.options_core.specs.declared.from_derive.FdiOptions.{FdiOptions}
use Rattle.options_core.specs.declared.from_field.FromFieldOptions.{FromFieldOptions}
use Rattle.options_core.specs.declared.from_type_param.FromTypeParamOptions.{FromTypeParamOptions}
use Rattle.options_core.specs.declared.from_variant.FromVariantOptions.{FromVariantOptions}
use Rattle.options_core.specs.declared.outer_from.OuterFrom.{OuterFrom}
use Rattle.options_core.specs.ContainerOptions.{of_attributes, of_fdi, of_fdi_faults, of_from_field, of_from_variant, of_from_variant_faults, of_outer_faults, of_type_param}
use Rattle.options_core.specs.Parts.{forwarded_in, given_in, member_faults, own_fields}
use Rattle.options_core.specs.Receivers.{attributes_last, attributes_start, attributes_takes, fdi_start, fdi_takes, from_field_start, from_field_takes, from_variant_start, from_variant_takes, outer_checks, type_param_start, type_param_takes}

-- what stands behind the fields of a struct: those without fault, and the parts that they take

abbrev pub outer_with : Rules → Derive → OuterFrom → List Field → OuterFrom
outer_with rules derive set fields = record set {
  container = core_with set.container (good_fields rules set.container (own_fields derive fields));
  ident = forwarded_in derive magic.Ident set.ident fields;
  attrs = forwarded_in derive magic.Attrs set.attrs fields;
}

abbrev pub attributes_with : Rules → FromAttributesOptions → List Field → FromAttributesOptions
attributes_with rules set fields = record set { base = outer_with rules FromAttributes set.base fields }

abbrev pub fdi_with : Rules → FdiOptions → List Field → FdiOptions
fdi_with rules set fields = record set {
  base = outer_with rules FromDeriveInput set.base fields;
  vis = given_in FromDeriveInput magic.Vis set.vis fields;
  generics = forwarded_in FromDeriveInput magic.Generics set.generics fields;
  body = forwarded_in FromDeriveInput magic.Body set.body fields;
}

abbrev pub from_field_with : Rules → FromFieldOptions → List Field → FromFieldOptions
from_field_with rules set fields = record set {
  base = outer_with rules FromField set.base fields;
  vis = given_in FromField magic.Vis set.vis fields;
  ty = given_in FromField magic.Ty set.ty fields;
}

abbrev pub type_param_with : Rules → FromTypeParamOptions → List Field → FromTypeParamOptions
type_param_with rules set fields = record set {
  base = outer_with rules FromTypeParam set.base fields;
  bounds = given_in FromTypeParam magic.Bounds set.bounds fields;
  default = given_in FromTypeParam magic.Default set.default fields;
}

abbrev pub from_variant_with : Rules → FromVariantOptions → List Field → FromVariantOptions
from_variant_with rules set fields = record set {
  base = outer_with rules FromVariant set.base fields;
  discriminant = given_in FromVariant magic.Discriminant set.discriminant fields;
  fields = forwarded_in FromVariant magic.Fields set.fields fields;
}

-- a kind of options that takes no variants: where they begin, what stands behind items, what is wrong with an item, what
-- stands behind fields, what is wrong with one, and what is checked behind them and last
abbrev pub outer_reader : {S : Type 0} → S → (S → List Meta → S) → (S → Meta → List Fault) → (S → List Field → S) → (S → Field → List Fault)
    → (S → List Fault) → (S → List Fault) → Reader S
outer_reader start options item_faults with_fields field_faults checks last = record {
  start = start;
  options = options;
  item_faults = item_faults;
  field_faults = field_faults;
  variant_faults = λ set variant. no_variant variant ∷ [];
  with_body = λ set it. with_fields set (body_fields it);
  checks = checks;
  last = last;
}

abbrev pub attributes_reader : Rules → DeriveInput → Reader FromAttributesOptions
attributes_reader rules input =
    outer_reader (attributes_start rules input) (of_attributes rules) (λ set. of_outer_faults rules set.base) (attributes_with rules)
    (λ set. member_faults rules FromAttributes set.base.container) (λ set. outer_checks set.base) attributes_last

abbrev pub fdi_reader : Rules → DeriveInput → Reader FdiOptions
fdi_reader rules input =
    outer_reader (fdi_start rules input) (of_fdi rules) (of_fdi_faults rules) (fdi_with rules)
    (λ set. member_faults rules FromDeriveInput set.base.container) (λ set. outer_checks set.base) (λ set. [])

abbrev pub from_field_reader : Rules → DeriveInput → Reader FromFieldOptions
from_field_reader rules input =
    outer_reader (from_field_start rules input) (of_from_field rules) (λ set. of_outer_faults rules set.base) (from_field_with rules)
    (λ set. member_faults rules FromField set.base.container) (λ set. outer_checks set.base) (λ set. [])

abbrev pub type_param_reader : Rules → DeriveInput → Reader FromTypeParamOptions
type_param_reader rules input =
    outer_reader (type_param_start rules input) (of_type_param rules) (λ set. of_outer_faults rules set.base) (type_param_with rules)
    (λ set. member_faults rules FromTypeParam set.base.container) (λ set. outer_checks set.base) (λ set. [])

abbrev pub from_variant_reader : Rules → DeriveInput → Reader FromVariantOptions
from_variant_reader rules input =
    outer_reader (from_variant_start rules input) (of_from_variant rules) (of_from_variant_faults rules) (from_variant_with rules)
    (λ set. member_faults rules FromVariant set.base.container) (λ set. outer_checks set.base) (λ set. [])

-- the same one stage behind another, as they are read

abbrev pub attributes_own : Rules → FromAttributesOptions → Field → Option (Outcome FromAttributesOptions)
attributes_own rules set field = Some (attributes_takes rules set field)

abbrev pub fdi_own : Rules → FdiOptions → Field → Option (Outcome FdiOptions)
fdi_own rules set field = Some (fdi_takes rules set field)

abbrev pub from_field_own : Rules → FromFieldOptions → Field → Option (Outcome FromFieldOptions)
from_field_own rules set field = Some (from_field_takes rules set field)

abbrev pub type_param_own : Rules → FromTypeParamOptions → Field → Option (Outcome FromTypeParamOptions)
type_param_own rules set field = Some (type_param_takes rules set field)

abbrev pub from_variant_own : Rules → FromVariantOptions → Field → Option (Outcome FromVariantOptions)
from_variant_own rules set field = Some (from_variant_takes rules set field)

-- a kind without variants
abbrev pub outer_staged : {S : Type 0} → Rules → (Rules → S → Field → Option (Outcome S)) → Reader S → DeriveInput → Outcome S
outer_staged rules own reader input = staged reader (field_or own rules) (variant_or no_variants rules) input

abbrev pub attributes_staged : Rules → DeriveInput → Outcome FromAttributesOptions
attributes_staged rules input = outer_staged rules attributes_own (attributes_reader rules input) input

-- the same with what is checked last
abbrev pub attributes_whole : Rules → DeriveInput → Outcome FromAttributesOptions
attributes_whole rules input =
    staged_whole (attributes_reader rules input) (field_or attributes_own rules) (variant_or no_variants rules) input

abbrev pub fdi_staged : Rules → DeriveInput → Outcome FdiOptions
fdi_staged rules input = outer_staged rules fdi_own (fdi_reader rules input) input

abbrev pub from_field_staged : Rules → DeriveInput → Outcome FromFieldOptions
from_field_staged rules input = outer_staged rules from_field_own (from_field_reader rules input) input

abbrev pub type_param_staged : Rules → DeriveInput → Outcome FromTypeParamOptions
type_param_staged rules input = outer_staged rules type_param_own (type_param_reader rules input) input

abbrev pub from_variant_staged : Rules → DeriveInput → Outcome FromVariantOptions
from_variant_staged rules input = outer_staged rules from_variant_own (from_variant_reader rules input) input
