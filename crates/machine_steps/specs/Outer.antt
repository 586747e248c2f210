-- Elements, and parts of them, that are read at a type.
use Rattle.std.specs.Prelude.{ℕ, List, [], ◌∷◌, Option, Some, None, option_map, codes}
use Rattle.tok_types.specs.declared.span.Span.{Span}
use Rattle.tok_types.specs.declared.span.Span.TheVariants.{CallSite}
use Rattle.node_expr.specs.declared.ty.«Type».{«Type» as Type'}
use Rattle.node_core.specs.declared.data.Fields.{Fields as NodeFields}
use Rattle.node_core.specs.declared.data.«Data».{«Data» as NodeData}
use Rattle.node_core.specs.declared.generics.ConstParam.{ConstParam}
use Rattle.node_core.specs.declared.generics.GenericParam.{GenericParam as NodeParam}
use Rattle.node_core.specs.declared.generics.Generics.{Generics as NodeGenerics}
use Rattle.node_core.specs.declared.generics.LifetimeParam.{LifetimeParam}
use Rattle.node_core.specs.declared.generics.WhereClause.{WhereClause}
use Rattle.node_core.specs.declared.style.Style.{Style}
use Rattle.node_core.specs.declared.style.Style.TheVariants as style
use Rattle.node_span.specs.Spanned.{body_span, fields_span, generics_span, param_span}
use Rattle.print_core.specs.Items.{attribute_tokens, const_param_tokens, derive_input_tokens, field_tokens, generics_tokens, lifetime_param_tokens, param_tokens, type_param_tokens, variant_tokens, visibility_tokens, where_tokens}
use Rattle.print_core.specs.Marks.{ident as ident_tokens}
use Rattle.print_core.specs.Nodes.{type_tokens}
use Rattle.error_fault.specs.Outcome.{Outcome, Value, on_value, with_span}
use Rattle.body_core.specs.Generics.{generics_meaning, param_meaning}
use Rattle.body_core.specs.Members.{data_meaning, fields_meaning}
use Rattle.body_core.specs.declared.ast.data.«Data».{«Data»}
use Rattle.body_core.specs.declared.ast.data.«Data».TheVariants as container
use Rattle.body_core.specs.declared.ast.fields.Fields.{Fields}
use Rattle.body_core.specs.declared.ast.generics.GenericParam.{GenericParam}
use Rattle.body_core.specs.declared.ast.generics.GenericParam.TheVariants as param
use Rattle.body_core.specs.declared.ast.generics.Generics.{Generics}
use Rattle.machine_cells.specs.Values.{ignored, kept, spanned, syntax, syntax_list, variant_of}
use Rattle.machine_host.specs.Decls.{decl_names}
use Rattle.machine_places.specs.Rows.{outer_row_of}
use Rattle.machine_places.specs.declared.part.Part.{Part}
use Rattle.machine_places.specs.declared.part.Part.TheVariants as part
use Rattle.machine_places.specs.declared.row.OuterRow.TheFolds.{fold-OuterRow}
use Rattle.machine_places.specs.declared.row.OuterRow.TheOpen.{OuterRow-F}
use Rattle.machine_value.specs.declared.value.Value.{Value as Datum}
use Rattle.machine_value.specs.declared.value.Value.TheVariants as value
use Rattle.machine_steps.specs.Elements.{Element, OnInput, OnField, OnVariant, OnTypeParam, attributes_of}
use Rattle.machine_steps.specs.Reads.{Before, unread}
use Rattle.machine_steps.specs.Setting.{Setting}

-- what a type is read from: an element, or a part of one that has a type of its own
pub data Source : Type 0 where
  Whole : Element → Source
  OfBody : NodeData → Source
  OfFields : NodeFields → Source
  OfGenerics : NodeGenerics → Source
  OfParam : NodeParam → Source

abbrev pub element_span : Element → Span
element_span (OnInput it) = it.span
element_span (OnField it) = it.span
element_span (OnVariant it) = it.span
element_span (OnTypeParam it) = it.span
element_span _ = CallSite

-- where it stands
abbrev pub source_span : Source → Span
source_span (Whole it) = element_span it
source_span (OfBody it) = body_span it
source_span (OfFields it) = fields_span it
source_span (OfGenerics it) = generics_span it
source_span (OfParam it) = param_span it

-- ---- how what is read is shown

-- the element, or a part of it, that a type takes as it stands
abbrev pub element_part : Part → Element → Option Datum
element_part part.DeriveInput (OnInput it) = Some (syntax derive_input_tokens it)
element_part part.Field (OnField it) = Some (syntax field_tokens it)
element_part part.Visibility (OnField it) = Some (syntax visibility_tokens it.vis)
element_part part.Type (OnField it) = Some (syntax type_tokens it.ty)
element_part part.Variant (OnVariant it) = Some (syntax variant_tokens it)
element_part part.Ident (OnVariant it) = Some (syntax ident_tokens it.ident)
element_part part.TypeParam (OnTypeParam it) = Some (syntax type_param_tokens it)
element_part part.Ident (OnTypeParam it) = Some (syntax ident_tokens it.ident)
element_part part.Attributes it = Some (syntax_list attribute_tokens (attributes_of it))
element_part _ _ = None

abbrev pub source_part : Part → Source → Option Datum
source_part it (Whole element) = element_part it element
source_part part.Generics (OfGenerics it) = Some (syntax generics_tokens it)
source_part part.GenericParam (OfParam it) = Some (syntax param_tokens it)
source_part _ _ = None

-- a value with what it was read from
abbrev pub with_original : Datum → Datum → Datum
with_original original it = value.Struct (codes "WithOriginal") style.Struct ((codes "parsed", it) ∷ (codes "original", original) ∷ [])

abbrev pub style_name : Style → List ℕ
style_name style.Tuple = codes "Tuple"
style_name style.Struct = codes "Struct"
style_name style.Unit = codes "Unit"

abbrev pub shown_style : Style → Datum
shown_style it = value.Variant (codes "Style") (style_name it) style.Unit []

abbrev pub shown_fields : Fields Datum → Datum
shown_fields it = value.Struct (codes "Fields") style.Struct ((codes "style", shown_style it.style) ∷ (codes "fields", value.List it.fields) ∷ [])

abbrev pub shown_data : «Data» Datum Datum → Datum
shown_data (container.Enum variants) = variant_of (codes "Data") (codes "Enum") (value.List variants)
shown_data (container.Struct it) = variant_of (codes "Data") (codes "Struct") (shown_fields it)

abbrev pub shown_param : GenericParam Datum LifetimeParam ConstParam → Datum
shown_param (param.Ty it) = variant_of (codes "GenericParam") (codes "Ty") it
shown_param (param.Lifetime it) = variant_of (codes "GenericParam") (codes "Lifetime") (syntax lifetime_param_tokens it)
shown_param (param.Const it) = variant_of (codes "GenericParam") (codes "Const") (syntax const_param_tokens it)

abbrev pub shown_generics : Generics Datum WhereClause → Datum
shown_generics it =
    value.Struct (codes "Generics") style.Struct ((codes "params", value.List it.params) ∷ (codes "where_clause", value.Opt (option_map (syntax where_tokens) it.where_clause)) ∷ [])

-- ---- reading

abbrev pub value_or_unread : Option Datum → Outcome Datum
value_or_unread (Some it) = Value it
value_or_unread None = unread

abbrev pub Read : Type 0
Read = Source → Outcome Datum

-- the parts of a body by the readings of their types; what is no body is not read
abbrev pub read_data : Read → Read → Read
read_data variant field (OfBody it) = on_value shown_data (data_meaning (λ one. variant (Whole (OnVariant one))) (λ one. field (Whole (OnField one))) it)
read_data variant field _ = unread

abbrev pub read_fields : Read → Read
read_fields field (OfFields it) = on_value shown_fields (fields_meaning (λ one. field (Whole (OnField one))) it)
read_fields field _ = unread

abbrev pub read_generics : Read → Read
read_generics param (OfGenerics it) = on_value shown_generics (generics_meaning (λ one. param (OfParam one)) it)
read_generics param _ = unread

abbrev pub read_param : Read → Read
read_param type (OfParam it) = on_value shown_param (param_meaning (λ one. type (Whole (OnTypeParam one))) it)
read_param type (Whole (OnTypeParam it)) = on_value (λ one. shown_param (param.Ty one)) (type (Whole (OnTypeParam it)))
read_param type _ = unread

-- an earlier declaration reads elements alone
abbrev pub read_declared : Before → ℕ → Read
read_declared before number (Whole it) = (before number).outer it
read_declared before number _ = unread

abbrev pub read_original : Option Datum → Outcome Datum → Outcome Datum
read_original (Some original) outcome = on_value (with_original original) outcome
read_original None outcome = unread

-- what a row reads, where each row inside reads so
abbrev pub layer_outer : Before → OuterRow-F Read → Read
layer_outer before OuterRow-F.Unit source = Value value.Unit
layer_outer before OuterRow-F.Ignored source = Value ignored
layer_outer before (OuterRow-F.Part it) source = value_or_unread (source_part it source)
layer_outer before (OuterRow-F.Declared number) source = read_declared before number source
layer_outer before (OuterRow-F.SpannedValue inner) source = on_value (λ it. spanned it (source_span source)) (with_span (source_span source) (inner source))
layer_outer before (OuterRow-F.WithOriginal inner original) source = read_original (source_part original source) (inner source)
layer_outer before (OuterRow-F.Result inner) source = Value (kept (inner source))
layer_outer before (OuterRow-F.Data variant field) source = read_data variant field source
layer_outer before (OuterRow-F.Fields field) source = read_fields field source
layer_outer before (OuterRow-F.Generics param) source = read_generics param source
layer_outer before (OuterRow-F.GenericParam type) source = read_param type source
layer_outer before OuterRow-F.Other source = unread

module _ (setting : Setting) (before : Before) (type : Type') where
  abbrev pub read_outer : Read
  read_outer = fold-OuterRow Read (layer_outer before) (outer_row_of (decl_names setting.decls) type)

  -- the element at the type
  abbrev pub outer : Element → Outcome Datum
  outer element = read_outer (Whole element)
