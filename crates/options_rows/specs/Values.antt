-- What the item of an option is read as, as the option keeps it.
use Rattle.std.specs.Prelude.{Bool, if◌then◌else◌, List, [], Option, Some, None, unwrap_or}
use Rattle.base_core.specs.declared.text.Text.{Text}
use Rattle.tok_types.specs.declared.ident.Ident.{Ident}
use Rattle.tok_types.specs.declared.span.Span.{Span}
use Rattle.tok_types.specs.declared.span.Span.TheVariants.{CallSite}
use Rattle.node_expr.specs.PathIdent.{ident_of}
use Rattle.node_expr.specs.declared.path.Path.{Path}
use Rattle.node_core.specs.Meta.{path_of_meta}
use Rattle.node_core.specs.declared.attr.Meta.{Meta}
use Rattle.node_core.specs.declared.generics.WherePredicate.{WherePredicate}
use Rattle.node_make.specs.PathText.{path_text}
use Rattle.node_span.specs.Spanned.{meta_span}
use Rattle.error_fault.specs.Fault.{at_span}
use Rattle.error_fault.specs.Kind.{set_of}
use Rattle.error_fault.specs.declared.fault.Fault.{Fault}
use Rattle.error_fault.specs.Outcome.{Outcome, Faults, on_value}
use Rattle.error_fault.specs.declared.kind.FaultKind.TheVariants.{UnknownField}
use Rattle.options_types.specs.Dispatch.{from_meta}
use Rattle.options_types.specs.PathLists.{path_list_cells}
use Rattle.options_types.specs.Rows.{bool_cells, text_cells}
use Rattle.options_types.specs.PathList.{PathList}
use Rattle.options_types.specs.Exprs.{path_cells}
use Rattle.options_types.specs.Syntax.{where_predicates_cells}
use Rattle.options_types.specs.Callable.{callable, callable_cells}
use Rattle.codegen_program.specs.declared.callable.Callable.{Callable}
use Rattle.options_types.specs.Flag.{flag_cells}
use Rattle.util_table.specs.Rule.{rule_cells}
use Rattle.util_table.specs.declared.row.Row.{Row as NameRow}
use Rattle.util_table.specs.declared.rule.RenameRule.{RenameRule}
use Rattle.codegen_program.specs.declared.arm.PostfixTransform.{PostfixTransform}
use Rattle.codegen_program.specs.declared.shape.DataShape.{DataShape}
use Rattle.options_types.specs.DefaultExpression.{default_cells}
use Rattle.options_types.specs.ForwardAttrs.{forward_cells}
use Rattle.options_types.specs.Shapes.{shapes_cells, variant_shapes_cells}
use Rattle.options_types.specs.SpannedValue.{spanned_cells}
use Rattle.options_types.specs.declared.default_expression.DefaultExpression.{DefaultExpression}
use Rattle.options_types.specs.declared.forward_attrs.ForwardAttrsFilter.{ForwardAttrsFilter}
use Rattle.options_types.specs.declared.shapes.DeriveInputShapeSet.{DeriveInputShapeSet}
use Rattle.options_types.specs.declared.spanned_value.SpannedValue.{SpannedValue}

-- the table by which names are given: its rows
abbrev pub Rules : Type 0
Rules = List NameRow

-- the text of an identifier that is not raw
abbrev pub plain_text : Ident → Text
plain_text ident = if ident.raw then [] else ident.text

-- the word that a path is: its one identifier, where this is not raw
abbrev pub word_by : Option Ident → Text
word_by None = []
word_by (Some ident) = plain_text ident

abbrev pub word_of : Path → Text
word_of path = word_by (ident_of path)

-- the name of an item, in faults
abbrev pub name_of : Meta → Text
name_of item = path_text (path_of_meta item)

-- an item that is of no option
unfoldable pub unknown : Meta → Fault
unknown item = at_span (UnknownField (name_of item) (set_of [])) (meta_span item)

unfoldable pub bool_of : Meta → Outcome Bool
bool_of item = from_meta bool_cells item

unfoldable pub text_of : Meta → Outcome Text
text_of item = from_meta text_cells item

unfoldable pub path_of : Meta → Outcome Path
path_of item = from_meta path_cells item

unfoldable pub paths_of : Meta → Outcome PathList
paths_of item = on_value (λ paths. record { 0 = paths }) (from_meta path_list_cells item)

unfoldable pub callable_of : Meta → Outcome Callable
callable_of item = on_value callable (from_meta callable_cells item)

-- a `bool`, and where it stands
unfoldable pub spanned_bool_of : Meta → Outcome (SpannedValue Bool)
spanned_bool_of item = from_meta (spanned_cells bool_cells) item

unfoldable pub default_of : Meta → Outcome DefaultExpression
default_of item = from_meta default_cells item

unfoldable pub forward_of : Meta → Outcome ForwardAttrsFilter
forward_of item = from_meta forward_cells item

unfoldable pub predicates_of : Meta → Outcome (List WherePredicate)
predicates_of item = from_meta where_predicates_cells item

unfoldable pub shapes_of : Meta → Outcome DeriveInputShapeSet
shapes_of item = from_meta shapes_cells item

-- the shapes of variants
unfoldable pub variant_shapes_of : Meta → Outcome DataShape
variant_shapes_of item = from_meta variant_shapes_cells item

-- a rule of the table
unfoldable pub rule_of : Rules → Meta → Outcome RenameRule
rule_of rules item = from_meta (rule_cells rules) item

-- where a flag's word stands
unfoldable pub present_of : Meta → Outcome Span
present_of item = on_value (λ place. unwrap_or place CallSite) (from_meta flag_cells item)

abbrev pub transform : Meta → Option Ident → Outcome PostfixTransform
transform item None = Faults (unknown item) []
transform item (Some ident) = on_value (λ path. record { transformer = ident; function = path }) (from_meta path_cells item)

-- the function that is called, and by what
unfoldable pub transform_of : Meta → Outcome PostfixTransform
transform_of item = transform item (ident_of (path_of_meta item))
