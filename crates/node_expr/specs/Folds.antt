-- Computations over nodes that make values of one type: a step for each node says what it makes of
-- one level, where each node in it stands as the value that was made of it.
use Rattle.node_expr.specs.declared.expr.Expr.{Expr}
use Rattle.node_expr.specs.declared.expr.Expr.TheFolds.{fold-Expr, fold-TypeParamBound, fold-GenericArgument, fold-PathArguments, fold-Type, fold-ExprPath, fold-TraitBound, fold-Path, fold-PathSegment, fold-TypeArray, fold-TypePath}
use Rattle.node_expr.specs.declared.expr.Expr.TheOpen.{Expr-F, TypeParamBound-F, GenericArgument-F, PathArguments-F, Type-F, ExprPath-F, TraitBound-F, Path-F, PathSegment-F, TypeArray-F, TypePath-F}
use Rattle.node_expr.specs.declared.expr.ExprPath.{ExprPath}
use Rattle.node_expr.specs.declared.generics.TraitBound.{TraitBound}
use Rattle.node_expr.specs.declared.generics.TypeParamBound.{TypeParamBound}
use Rattle.node_expr.specs.declared.path.GenericArgument.{GenericArgument}
use Rattle.node_expr.specs.declared.path.Path.{Path}
use Rattle.node_expr.specs.declared.path.PathArguments.{PathArguments}
use Rattle.node_expr.specs.declared.path.PathSegment.{PathSegment}
use Rattle.node_expr.specs.declared.ty.«Type».{«Type» as Type'}
use Rattle.node_expr.specs.declared.ty.TypeArray.{TypeArray}
use Rattle.node_expr.specs.declared.ty.TypePath.{TypePath}

-- one level of a node, with values in the place of the nodes in it
abbrev pub ExprOf : Type 0 → Type 0
ExprOf A = Expr-F A A A A A A A A A A A

abbrev pub TypeParamBoundOf : Type 0 → Type 0
TypeParamBoundOf A = TypeParamBound-F A A A A A A A A A A A

abbrev pub GenericArgumentOf : Type 0 → Type 0
GenericArgumentOf A = GenericArgument-F A A A A A A A A A A A

abbrev pub PathArgumentsOf : Type 0 → Type 0
PathArgumentsOf A = PathArguments-F A A A A A A A A A A A

abbrev pub TypeOf : Type 0 → Type 0
TypeOf A = Type-F A A A A A A A A A A A

abbrev pub ExprPathOf : Type 0 → Type 0
ExprPathOf A = ExprPath-F A A A A A A A A A A A

abbrev pub TraitBoundOf : Type 0 → Type 0
TraitBoundOf A = TraitBound-F A A A A A A A A A A A

abbrev pub PathOf : Type 0 → Type 0
PathOf A = Path-F A A A A A A A A A A A

abbrev pub PathSegmentOf : Type 0 → Type 0
PathSegmentOf A = PathSegment-F A A A A A A A A A A A

abbrev pub TypeArrayOf : Type 0 → Type 0
TypeArrayOf A = TypeArray-F A A A A A A A A A A A

abbrev pub TypePathOf : Type 0 → Type 0
TypePathOf A = TypePath-F A A A A A A A A A A A

-- a step for each node
pub record Steps (A : Type 0) : Type 0 where
  pub expr : ExprOf A → A
  pub bound : TypeParamBoundOf A → A
  pub argument : GenericArgumentOf A → A
  pub arguments : PathArgumentsOf A → A
  pub ty : TypeOf A → A
  pub expr_path : ExprPathOf A → A
  pub trait_bound : TraitBoundOf A → A
  pub path : PathOf A → A
  pub segment : PathSegmentOf A → A
  pub array : TypeArrayOf A → A
  pub type_path : TypePathOf A → A

-- what the steps make of a node
abbrev pub fold_expr : {A : Type 0} → Steps A → Expr → A
fold_expr {A} s = fold-Expr A A A A A A A A A A A s.expr s.bound s.argument s.arguments s.ty s.expr_path s.trait_bound s.path s.segment s.array s.type_path

abbrev pub fold_bound : {A : Type 0} → Steps A → TypeParamBound → A
fold_bound {A} s = fold-TypeParamBound A A A A A A A A A A A s.expr s.bound s.argument s.arguments s.ty s.expr_path s.trait_bound s.path s.segment s.array s.type_path

abbrev pub fold_argument : {A : Type 0} → Steps A → GenericArgument → A
fold_argument {A} s = fold-GenericArgument A A A A A A A A A A A s.expr s.bound s.argument s.arguments s.ty s.expr_path s.trait_bound s.path s.segment s.array s.type_path

abbrev pub fold_arguments : {A : Type 0} → Steps A → PathArguments → A
fold_arguments {A} s = fold-PathArguments A A A A A A A A A A A s.expr s.bound s.argument s.arguments s.ty s.expr_path s.trait_bound s.path s.segment s.array s.type_path

abbrev pub fold_type : {A : Type 0} → Steps A → Type' → A
fold_type {A} s = fold-Type A A A A A A A A A A A s.expr s.bound s.argument s.arguments s.ty s.expr_path s.trait_bound s.path s.segment s.array s.type_path

abbrev pub fold_expr_path : {A : Type 0} → Steps A → ExprPath → A
fold_expr_path {A} s = fold-ExprPath A A A A A A A A A A A s.expr s.bound s.argument s.arguments s.ty s.expr_path s.trait_bound s.path s.segment s.array s.type_path

abbrev pub fold_trait_bound : {A : Type 0} → Steps A → TraitBound → A
fold_trait_bound {A} s = fold-TraitBound A A A A A A A A A A A s.expr s.bound s.argument s.arguments s.ty s.expr_path s.trait_bound s.path s.segment s.array s.type_path

abbrev pub fold_path : {A : Type 0} → Steps A → Path → A
fold_path {A} s = fold-Path A A A A A A A A A A A s.expr s.bound s.argument s.arguments s.ty s.expr_path s.trait_bound s.path s.segment s.array s.type_path

abbrev pub fold_segment : {A : Type 0} → Steps A → PathSegment → A
fold_segment {A} s = fold-PathSegment A A A A A A A A A A A s.expr s.bound s.argument s.arguments s.ty s.expr_path s.trait_bound s.path s.segment s.array s.type_path

abbrev pub fold_array : {A : Type 0} → Steps A → TypeArray → A
fold_array {A} s = fold-TypeArray A A A A A A A A A A A s.expr s.bound s.argument s.arguments s.ty s.expr_path s.trait_bound s.path s.segment s.array s.type_path

abbrev pub fold_type_path : {A : Type 0} → Steps A → TypePath → A
fold_type_path {A} s = fold-TypePath A A A A A A A A A A A s.expr s.bound s.argument s.arguments s.ty s.expr_path s.trait_bound s.path s.segment s.array s.type_path
