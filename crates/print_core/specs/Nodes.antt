-- The tokens of a node: its rule, over the tokens of its parts.
use Rattle.std.specs.Prelude.{List}
use Rattle.node_expr.specs.declared.expr.Expr.{Expr}
use Rattle.node_expr.specs.declared.generics.TypeParamBound.{TypeParamBound}
use Rattle.node_expr.specs.declared.path.GenericArgument.{GenericArgument}
use Rattle.node_expr.specs.declared.path.PathArguments.{PathArguments}
use Rattle.node_expr.specs.declared.ty.«Type».{«Type» as Type'}
use Rattle.node_expr.specs.declared.expr.ExprPath.{ExprPath}
use Rattle.node_expr.specs.declared.generics.TraitBound.{TraitBound}
use Rattle.node_expr.specs.declared.path.Path.{Path}
use Rattle.node_expr.specs.declared.path.PathSegment.{PathSegment}
use Rattle.node_expr.specs.declared.ty.TypeArray.{TypeArray}
use Rattle.node_expr.specs.declared.ty.TypePath.{TypePath}
use Rattle.node_expr.specs.declared.expr.Expr.TheFolds.{fold-Expr, fold-TypeParamBound, fold-GenericArgument, fold-PathArguments, fold-Type, fold-ExprPath, fold-TraitBound, fold-Path, fold-PathSegment, fold-TypeArray, fold-TypePath}
use Rattle.print_core.specs.declared.path.PathStyle.{PathStyle}
use Rattle.print_core.specs.Marks.{Trees}
use Rattle.print_core.specs.Paths.{Styled, Arguments, PathParts, path_in, path_rule, segment_rule, arguments_rule, argument_rule, bound_rule, trait_bound_rule, type_path_rule, expr_path_rule}
use Rattle.print_core.specs.Types.{type_rule, type_array_rule}
use Rattle.print_core.specs.Exprs.{expr_rule}

abbrev pub expr_tokens : Expr → Trees
expr_tokens = fold-Expr Trees Trees Trees Arguments Trees Trees Trees PathParts Styled Trees Trees
    expr_rule bound_rule argument_rule arguments_rule type_rule expr_path_rule trait_bound_rule path_rule segment_rule type_array_rule type_path_rule

abbrev pub bound_tokens : TypeParamBound → Trees
bound_tokens = fold-TypeParamBound Trees Trees Trees Arguments Trees Trees Trees PathParts Styled Trees Trees
    expr_rule bound_rule argument_rule arguments_rule type_rule expr_path_rule trait_bound_rule path_rule segment_rule type_array_rule type_path_rule

abbrev pub argument_tokens : GenericArgument → Trees
argument_tokens = fold-GenericArgument Trees Trees Trees Arguments Trees Trees Trees PathParts Styled Trees Trees
    expr_rule bound_rule argument_rule arguments_rule type_rule expr_path_rule trait_bound_rule path_rule segment_rule type_array_rule type_path_rule

abbrev pub arguments_tokens : PathArguments → Arguments
arguments_tokens = fold-PathArguments Trees Trees Trees Arguments Trees Trees Trees PathParts Styled Trees Trees
    expr_rule bound_rule argument_rule arguments_rule type_rule expr_path_rule trait_bound_rule path_rule segment_rule type_array_rule type_path_rule

abbrev pub type_tokens : Type' → Trees
type_tokens = fold-Type Trees Trees Trees Arguments Trees Trees Trees PathParts Styled Trees Trees
    expr_rule bound_rule argument_rule arguments_rule type_rule expr_path_rule trait_bound_rule path_rule segment_rule type_array_rule type_path_rule

abbrev pub expr_path_tokens : ExprPath → Trees
expr_path_tokens = fold-ExprPath Trees Trees Trees Arguments Trees Trees Trees PathParts Styled Trees Trees
    expr_rule bound_rule argument_rule arguments_rule type_rule expr_path_rule trait_bound_rule path_rule segment_rule type_array_rule type_path_rule

abbrev pub trait_bound_tokens : TraitBound → Trees
trait_bound_tokens = fold-TraitBound Trees Trees Trees Arguments Trees Trees Trees PathParts Styled Trees Trees
    expr_rule bound_rule argument_rule arguments_rule type_rule expr_path_rule trait_bound_rule path_rule segment_rule type_array_rule type_path_rule

abbrev pub path_parts : Path → PathParts
path_parts = fold-Path Trees Trees Trees Arguments Trees Trees Trees PathParts Styled Trees Trees
    expr_rule bound_rule argument_rule arguments_rule type_rule expr_path_rule trait_bound_rule path_rule segment_rule type_array_rule type_path_rule

abbrev pub segment_tokens : PathSegment → Styled
segment_tokens = fold-PathSegment Trees Trees Trees Arguments Trees Trees Trees PathParts Styled Trees Trees
    expr_rule bound_rule argument_rule arguments_rule type_rule expr_path_rule trait_bound_rule path_rule segment_rule type_array_rule type_path_rule

abbrev pub type_array_tokens : TypeArray → Trees
type_array_tokens = fold-TypeArray Trees Trees Trees Arguments Trees Trees Trees PathParts Styled Trees Trees
    expr_rule bound_rule argument_rule arguments_rule type_rule expr_path_rule trait_bound_rule path_rule segment_rule type_array_rule type_path_rule

abbrev pub type_path_tokens : TypePath → Trees
type_path_tokens = fold-TypePath Trees Trees Trees Arguments Trees Trees Trees PathParts Styled Trees Trees
    expr_rule bound_rule argument_rule arguments_rule type_rule expr_path_rule trait_bound_rule path_rule segment_rule type_array_rule type_path_rule

-- a path in this style, with no type in front of it
abbrev pub path_tokens : PathStyle → Path → Trees
path_tokens style path = path_in style (path_parts path)
