-- The tokens of a node of one kind are those of the type or expression that it is.
use Rattle.std.proofs.Common.{◌≡◌, ◌∙◌, ap, sym, Bool, List, Option, Some, None}
use Rattle.tok_types.specs.declared.ident.Lifetime.{Lifetime}
use Rattle.tok_types.specs.declared.span.Span.{Span}
use Rattle.node_expr.specs.Layers.{ExprLayer, TypeLayer}
use Rattle.node_expr.specs.declared.expr.Expr.{Expr, roll-Expr}
use Rattle.node_expr.specs.declared.expr.Expr.TheFolds.{fold-roll-Expr, fold-roll-Type, map-Expr, map-Type}
use Rattle.node_expr.specs.declared.expr.Expr.TheOpen.{Expr-F, Type-F}
use Rattle.node_expr.specs.declared.expr.Expr.TheVariants as expr
use Rattle.node_expr.specs.declared.expr.ExprPath.{ExprPath}
use Rattle.node_expr.specs.declared.expr.ExprRange.{ExprRange}
use Rattle.node_expr.specs.declared.generics.TraitBound.{TraitBound}
use Rattle.node_expr.specs.declared.generics.TypeParamBound.{TypeParamBound}
use Rattle.node_expr.specs.declared.path.GenericArgument.{GenericArgument}
use Rattle.node_expr.specs.declared.path.Path.{Path}
use Rattle.node_expr.specs.declared.path.PathArguments.{PathArguments}
use Rattle.node_expr.specs.declared.path.PathSegment.{PathSegment}
use Rattle.node_expr.specs.declared.ty.NamedArg.{NamedArg}
use Rattle.node_expr.specs.declared.ty.ReturnType.{ReturnType}
use Rattle.node_expr.specs.declared.ty.ReturnType.TheVariants as output
use Rattle.node_expr.specs.declared.ty.«Type».{«Type» as Type', roll-Type}
use Rattle.node_expr.specs.declared.ty.«Type».TheVariants as ty
use Rattle.node_expr.specs.declared.ty.TypeArray.{TypeArray}
use Rattle.node_expr.specs.declared.ty.TypeFnPtr.{TypeFnPtr}
use Rattle.node_expr.specs.declared.ty.TypePath.{TypePath}
use Rattle.print_core.specs.Exprs.{expr_rule}
use Rattle.print_core.specs.Kinds.{fn_ptr_tokens, range_tokens}
use Rattle.print_core.specs.Marks.{Trees}
use Rattle.print_core.specs.Nodes.{argument_tokens, arguments_tokens, bound_tokens, expr_path_tokens, expr_tokens, path_parts, segment_tokens, trait_bound_tokens, type_array_tokens, type_path_tokens, type_tokens}
use Rattle.print_core.specs.Paths.{Arguments, PathParts, Styled, argument_rule, arguments_rule, bound_rule, expr_path_rule, path_rule, segment_rule, trait_bound_rule, type_path_rule}
use Rattle.print_core.specs.Types.{type_array_rule, type_rule}

-- a layer with what its parts print
abbrev printed_expr : ExprLayer → Expr-F Trees Trees Trees Arguments Trees Trees Trees PathParts Styled Trees Trees
printed_expr = map-Expr Expr TypeParamBound GenericArgument PathArguments Type' ExprPath TraitBound Path PathSegment TypeArray TypePath Trees Trees Trees Arguments Trees Trees Trees PathParts Styled Trees Trees
    expr_tokens bound_tokens argument_tokens arguments_tokens type_tokens expr_path_tokens trait_bound_tokens path_parts segment_tokens type_array_tokens type_path_tokens

abbrev printed_type : TypeLayer → Type-F Trees Trees Trees Arguments Trees Trees Trees PathParts Styled Trees Trees
printed_type = map-Type Expr TypeParamBound GenericArgument PathArguments Type' ExprPath TraitBound Path PathSegment TypeArray TypePath Trees Trees Trees Arguments Trees Trees Trees PathParts Styled Trees Trees
    expr_tokens bound_tokens argument_tokens arguments_tokens type_tokens expr_path_tokens trait_bound_tokens path_parts segment_tokens type_array_tokens type_path_tokens

-- what the layer of an expression prints
pub expr_printed : (layer : ExprLayer) (it : Expr) → roll-Expr layer ≡ it → expr_rule (printed_expr layer) ≡ expr_tokens it
expr_printed layer it rolled =
    sym (fold-roll-Expr Trees Trees Trees Arguments Trees Trees Trees PathParts Styled Trees Trees
    expr_rule bound_rule argument_rule arguments_rule type_rule expr_path_rule trait_bound_rule path_rule segment_rule type_array_rule type_path_rule layer)
    ∙ ap expr_tokens rolled

-- what the layer of a type prints
pub type_printed : (layer : TypeLayer) (it : Type') → roll-Type layer ≡ it → type_rule (printed_type layer) ≡ type_tokens it
type_printed layer it rolled =
    sym (fold-roll-Type Trees Trees Trees Arguments Trees Trees Trees PathParts Styled Trees Trees
    expr_rule bound_rule argument_rule arguments_rule type_rule expr_path_rule trait_bound_rule path_rule segment_rule type_array_rule type_path_rule layer)
    ∙ ap type_tokens rolled

range_made : (start end : Option Expr) (closed : Bool) (span : Span) → range_tokens (record { start = start; end = end; closed = closed; span = span }) ≡ expr_tokens (expr.Range (record { start = start; end = end; closed = closed; span = span }))
range_made None None closed span = let made : ExprRange Expr = record { start = None; end = None; closed = closed; span = span } in expr_printed (Expr-F.Range made) (expr.Range made) (expr.rolls-Range made)
range_made None (Some end) closed span = let made : ExprRange Expr = record { start = None; end = Some end; closed = closed; span = span } in expr_printed (Expr-F.Range made) (expr.Range made) (expr.rolls-Range made)
range_made (Some start) None closed span = let made : ExprRange Expr = record { start = Some start; end = None; closed = closed; span = span } in expr_printed (Expr-F.Range made) (expr.Range made) (expr.rolls-Range made)
range_made (Some start) (Some end) closed span = let made : ExprRange Expr = record { start = Some start; end = Some end; closed = closed; span = span } in expr_printed (Expr-F.Range made) (expr.Range made) (expr.rolls-Range made)

pub range_printed : (it : ExprRange Expr) → range_tokens it ≡ expr_tokens (expr.Range it)
range_printed it = range_made it.start it.end it.closed it.span

fn_ptr_made : (lifetimes : List Lifetime) (inputs : List (NamedArg Type')) (output : ReturnType Type') (span : Span)
    → fn_ptr_tokens (record { lifetimes = lifetimes; inputs = inputs; output = output; span = span }) ≡ type_tokens (ty.FnPtr (record { lifetimes = lifetimes; inputs = inputs; output = output; span = span }))
fn_ptr_made lifetimes inputs output.Default span =
    let made : TypeFnPtr Type' = record { lifetimes = lifetimes; inputs = inputs; output = output.Default; span = span } in type_printed (Type-F.FnPtr made) (ty.FnPtr made) (ty.rolls-FnPtr made)
fn_ptr_made lifetimes inputs (output.Ty result) span =
    let made : TypeFnPtr Type' = record { lifetimes = lifetimes; inputs = inputs; output = output.Ty result; span = span } in type_printed (Type-F.FnPtr made) (ty.FnPtr made) (ty.rolls-FnPtr made)

pub fn_ptr_printed : (it : TypeFnPtr Type') → fn_ptr_tokens it ≡ type_tokens (ty.FnPtr it)
fn_ptr_printed it = fn_ptr_made it.lifetimes it.inputs it.output it.span
