-- What receivers of elements take of members, what is checked of them, and where their options begin.
use Rattle.std.specs.Prelude.{Bool, true, false, not, ◌||◌, cond, List, [], ◌∷◌, ◌++◌, length, map, codes, Option, Some, None}
use Rattle.base_core.specs.declared.text.Text.{Text}
use Rattle.tok_core.specs.Printing.{stream_text}
use Rattle.tok_types.specs.Stream.{stream_of}
use Rattle.tok_types.specs.declared.ident.Ident.{Ident}
use Rattle.tok_types.specs.declared.span.Span.{Span}
use Rattle.node_expr.specs.declared.path.Path.{Path}
use Rattle.node_core.specs.declared.data.Field.{Field}
use Rattle.node_core.specs.declared.derive.DeriveInput.{DeriveInput}
use Rattle.node_span.specs.Spanned.{path_span}
use Rattle.print_core.specs.Nodes.{path_tokens}
use Rattle.print_core.specs.declared.path.PathStyle.TheVariants.{Plain}
use Rattle.error_fault.specs.Fault.{at_span, plain}
use Rattle.error_fault.specs.Outcome.{Outcome, Value, on_value}
use Rattle.error_fault.specs.declared.fault.Fault.{Fault}
use Rattle.error_fault.specs.declared.kind.FaultKind.TheVariants.{Custom}
use Rattle.codegen_program.specs.MagicFields.{magic_of}
use Rattle.codegen_program.specs.declared.forwarded.Magic.{Magic}
use Rattle.codegen_program.specs.declared.forwarded.Magic.TheVariants as magic
use Rattle.codegen_program.specs.declared.program.Derive.TheVariants.{FromAttributes, FromDeriveInput, FromField, FromTypeParam, FromVariant}
use Rattle.body_core.specs.declared.ast.data.«Data».TheVariants as container
use Rattle.options_rows.specs.PathLists.{common}
use Rattle.options_rows.specs.ForwardAttrsFilter.{ForwardAttrsFilter}
use Rattle.options_rows.specs.ForwardAttrsFilter.TheVariants.{All, Only}
use Rattle.options_rows.specs.ForwardedField.{ForwardedField}
use Rattle.options_rows.specs.Values.{Rules}
use Rattle.options_members.specs.Body.{Body, core_checks, core_start, core_takes, is_delegated}
use Rattle.options_members.specs.declared.container.Core.{Core}
use Rattle.options_core.specs.declared.from_attributes.FromAttributesOptions.{FromAttributesOptions}
use Rattle.options_core.specs.declared.from_derive.FdiOptions.{FdiOptions}
use Rattle.options_core.specs.declared.from_field.FromFieldOptions.{FromFieldOptions}
use Rattle.options_core.specs.declared.from_type_param.FromTypeParamOptions.{FromTypeParamOptions}
use Rattle.options_core.specs.declared.from_variant.FromVariantOptions.{FromVariantOptions}
use Rattle.options_core.specs.declared.outer_from.OuterFrom.{OuterFrom}
use Rattle.options_core.specs.Parts.{part_said}

-- members: what a field leaves, by the part that it takes

abbrev pub outer_takes : Rules → Option Magic → OuterFrom → Field → Outcome OuterFrom
outer_takes rules (Some magic.Ident) set field = on_value (λ part. record set { ident = part }) (part_said field)
outer_takes rules (Some magic.Attrs) set field = on_value (λ part. record set { attrs = part }) (part_said field)
outer_takes rules part set field = on_value (λ core. record set { container = core }) (core_takes rules set.container field)

abbrev pub attributes_takes : Rules → FromAttributesOptions → Field → Outcome FromAttributesOptions
attributes_takes rules set field =
    on_value (λ base. record set { base = base }) (outer_takes rules (magic_of FromAttributes field) set.base field)

abbrev pub fdi_takes_as : Rules → Option Magic → FdiOptions → Field → Outcome FdiOptions
fdi_takes_as rules (Some magic.Vis) set field = Value (record set { vis = field.ident })
fdi_takes_as rules (Some magic.Generics) set field = on_value (λ part. record set { generics = part }) (part_said field)
fdi_takes_as rules (Some magic.Body) set field = on_value (λ part. record set { body = part }) (part_said field)
fdi_takes_as rules part set field = on_value (λ base. record set { base = base }) (outer_takes rules part set.base field)

abbrev pub fdi_takes : Rules → FdiOptions → Field → Outcome FdiOptions
fdi_takes rules set field = fdi_takes_as rules (magic_of FromDeriveInput field) set field

abbrev pub from_field_takes_as : Rules → Option Magic → FromFieldOptions → Field → Outcome FromFieldOptions
from_field_takes_as rules (Some magic.Vis) set field = Value (record set { vis = field.ident })
from_field_takes_as rules (Some magic.Ty) set field = Value (record set { ty = field.ident })
from_field_takes_as rules part set field = on_value (λ base. record set { base = base }) (outer_takes rules part set.base field)

abbrev pub from_field_takes : Rules → FromFieldOptions → Field → Outcome FromFieldOptions
from_field_takes rules set field = from_field_takes_as rules (magic_of FromField field) set field

abbrev pub type_param_takes_as : Rules → Option Magic → FromTypeParamOptions → Field → Outcome FromTypeParamOptions
type_param_takes_as rules (Some magic.Bounds) set field = Value (record set { bounds = field.ident })
type_param_takes_as rules (Some magic.Default) set field = Value (record set { default = field.ident })
type_param_takes_as rules part set field = on_value (λ base. record set { base = base }) (outer_takes rules part set.base field)

abbrev pub type_param_takes : Rules → FromTypeParamOptions → Field → Outcome FromTypeParamOptions
type_param_takes rules set field = type_param_takes_as rules (magic_of FromTypeParam field) set field

abbrev pub from_variant_takes_as : Rules → Option Magic → FromVariantOptions → Field → Outcome FromVariantOptions
from_variant_takes_as rules (Some magic.Discriminant) set field = Value (record set { discriminant = field.ident })
from_variant_takes_as rules (Some magic.Fields) set field = on_value (λ part. record set { fields = part }) (part_said field)
from_variant_takes_as rules part set field = on_value (λ base. record set { base = base }) (outer_takes rules part set.base field)

abbrev pub from_variant_takes : Rules → FromVariantOptions → Field → Outcome FromVariantOptions
from_variant_takes rules set field = from_variant_takes_as rules (magic_of FromVariant field) set field

-- checks

unfoldable pub not_populated : Text → Ident → Fault
not_populated kind ident =
    at_span (Custom (codes "field will not be populated because `forward_attrs` is not set on the " ++ kind)) ident.span

-- what a body is, in faults
abbrev pub body_kind : Body → Text
body_kind (container.Enum variants) = codes "enum"
body_kind (container.Struct it) = codes "struct"

-- a field takes attributes where none is kept
abbrev pub attrs_faults : Text → Option ForwardedField → Option ForwardAttrsFilter → List Fault
attrs_faults kind None filter = []
attrs_faults kind (Some attrs) None = not_populated kind attrs.ident ∷ []
attrs_faults kind (Some attrs) (Some filter) = []

-- the text of a path as its tokens are written
abbrev pub written : Path → Text
written path = stream_text (stream_of (path_tokens Plain path))

unfoldable pub not_forwarded : Path → Fault
not_forwarded path =
    at_span (Custom (codes "attribute path `" ++ written path ++ codes "` will not be forwarded because it is also listed in `attributes`")) (path_span path)

-- each path that is to be forwarded although it is read
abbrev pub forward_faults : Option ForwardAttrsFilter → List Path → List Fault
forward_faults None names = []
forward_faults (Some All) names = []
forward_faults (Some (Only paths)) names = map not_forwarded (common paths.0 names)

-- of every receiver of elements
abbrev pub outer_checks : OuterFrom → List Fault
outer_checks set =
    core_checks set.container
    ++ (attrs_faults (body_kind set.container.body) set.attrs set.forward_attrs ++ forward_faults set.forward_attrs set.attr_names.0)

-- a struct that is read as its one field is
abbrev pub is_whole_body : Option Span → Body → Bool
is_whole_body transparent (container.Enum variants) = false
is_whole_body transparent (container.Struct it) = is_delegated it.style (length it.fields) transparent

abbrev pub is_whole : Core → Bool
is_whole core = is_whole_body core.transparent.0 core.body

abbrev pub has_names : List Path → Bool
has_names [] = false
has_names (path ∷ more) = true

unfoldable pub collects_nothing : Fault
collects_nothing = plain (Custom (codes "FromAttributes without attributes collects nothing"))

-- under `FromAttributes`, behind all others: no attribute is read
abbrev pub attributes_last : FromAttributesOptions → List Fault
attributes_last set = cond (is_whole set.base.container || has_names set.base.attr_names.0) [] (collects_nothing ∷ [])

-- where options begin

abbrev pub outer_start : Rules → DeriveInput → OuterFrom
outer_start rules input =
    record {
      container = core_start rules input;
      attr_names = record { 0 = [] };
      forward_attrs = None;
      from_ident = false;
      attrs = None;
      ident = None;
    }

abbrev pub attributes_start : Rules → DeriveInput → FromAttributesOptions
attributes_start rules input = record { base = outer_start rules input }

abbrev pub fdi_start : Rules → DeriveInput → FdiOptions
fdi_start rules input = record { base = outer_start rules input; vis = None; generics = None; body = None; supports = None }

abbrev pub from_field_start : Rules → DeriveInput → FromFieldOptions
from_field_start rules input = record { base = outer_start rules input; vis = None; ty = None }

abbrev pub type_param_start : Rules → DeriveInput → FromTypeParamOptions
type_param_start rules input = record { base = outer_start rules input; bounds = None; default = None }

abbrev pub from_variant_start : Rules → DeriveInput → FromVariantOptions
from_variant_start rules input = record { base = outer_start rules input; supports = None; fields = None; discriminant = None }
