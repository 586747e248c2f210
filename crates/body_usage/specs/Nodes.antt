-- What a node mentions: its rule, over what its parts mention.
use Rattle.node_expr.specs.declared.generics.TypeParamBound.{TypeParamBound}
use Rattle.node_expr.specs.declared.path.GenericArgument.{GenericArgument}
use Rattle.node_expr.specs.declared.path.PathArguments.{PathArguments}
use Rattle.node_expr.specs.declared.ty.«Type».{«Type» as Type'}
use Rattle.node_expr.specs.declared.generics.TraitBound.{TraitBound}
use Rattle.node_expr.specs.declared.path.Path.{Path}
use Rattle.node_expr.specs.declared.path.PathSegment.{PathSegment}
use Rattle.node_expr.specs.declared.ty.TypeArray.{TypeArray}
use Rattle.node_expr.specs.declared.ty.TypePath.{TypePath}
use Rattle.node_expr.specs.declared.expr.Expr.TheFolds.{fold-TypeParamBound, fold-GenericArgument, fold-PathArguments, fold-Type, fold-TraitBound, fold-Path, fold-PathSegment, fold-TypeArray, fold-TypePath}
use Rattle.body_usage.specs.Mentions.{Mentioned}
use Rattle.body_usage.specs.Rules.{Segment, expr_rule, bound_rule, argument_rule, arguments_rule, type_rule, expr_path_rule, trait_bound_rule, path_rule, segment_rule, array_rule, type_path_rule}

abbrev pub bound_mentions : TypeParamBound → Mentioned
bound_mentions = fold-TypeParamBound Mentioned Mentioned Mentioned Mentioned Mentioned Mentioned Mentioned Mentioned Segment Mentioned Mentioned
    expr_rule bound_rule argument_rule arguments_rule type_rule expr_path_rule trait_bound_rule path_rule segment_rule array_rule type_path_rule

abbrev pub argument_mentions : GenericArgument → Mentioned
argument_mentions = fold-GenericArgument Mentioned Mentioned Mentioned Mentioned Mentioned Mentioned Mentioned Mentioned Segment Mentioned Mentioned
    expr_rule bound_rule argument_rule arguments_rule type_rule expr_path_rule trait_bound_rule path_rule segment_rule array_rule type_path_rule

abbrev pub arguments_mention : PathArguments → Mentioned
arguments_mention = fold-PathArguments Mentioned Mentioned Mentioned Mentioned Mentioned Mentioned Mentioned Mentioned Segment Mentioned Mentioned
    expr_rule bound_rule argument_rule arguments_rule type_rule expr_path_rule trait_bound_rule path_rule segment_rule array_rule type_path_rule

abbrev pub type_mentions : Type' → Mentioned
type_mentions = fold-Type Mentioned Mentioned Mentioned Mentioned Mentioned Mentioned Mentioned Mentioned Segment Mentioned Mentioned
    expr_rule bound_rule argument_rule arguments_rule type_rule expr_path_rule trait_bound_rule path_rule segment_rule array_rule type_path_rule

abbrev pub trait_bound_mentions : TraitBound → Mentioned
trait_bound_mentions = fold-TraitBound Mentioned Mentioned Mentioned Mentioned Mentioned Mentioned Mentioned Mentioned Segment Mentioned Mentioned
    expr_rule bound_rule argument_rule arguments_rule type_rule expr_path_rule trait_bound_rule path_rule segment_rule array_rule type_path_rule

abbrev pub path_mentions : Path → Mentioned
path_mentions = fold-Path Mentioned Mentioned Mentioned Mentioned Mentioned Mentioned Mentioned Mentioned Segment Mentioned Mentioned
    expr_rule bound_rule argument_rule arguments_rule type_rule expr_path_rule trait_bound_rule path_rule segment_rule array_rule type_path_rule

abbrev pub segment_of : PathSegment → Segment
segment_of = fold-PathSegment Mentioned Mentioned Mentioned Mentioned Mentioned Mentioned Mentioned Mentioned Segment Mentioned Mentioned
    expr_rule bound_rule argument_rule arguments_rule type_rule expr_path_rule trait_bound_rule path_rule segment_rule array_rule type_path_rule

abbrev pub array_mentions : TypeArray → Mentioned
array_mentions = fold-TypeArray Mentioned Mentioned Mentioned Mentioned Mentioned Mentioned Mentioned Mentioned Segment Mentioned Mentioned
    expr_rule bound_rule argument_rule arguments_rule type_rule expr_path_rule trait_bound_rule path_rule segment_rule array_rule type_path_rule

abbrev pub type_path_mentions : TypePath → Mentioned
type_path_mentions = fold-TypePath Mentioned Mentioned Mentioned Mentioned Mentioned Mentioned Mentioned Mentioned Segment Mentioned Mentioned
    expr_rule bound_rule argument_rule arguments_rule type_rule expr_path_rule trait_bound_rule path_rule segment_rule array_rule type_path_rule
