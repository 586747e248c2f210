-- Two nodes are equal exactly where they are the same without their places.
use Rattle.std.proofs.Common.{◌≡◌, subst}
use Rattle.node_expr.specs.Layers.{ExprLayer, TypeParamBoundLayer, GenericArgumentLayer, PathArgumentsLayer, TypeLayer, ExprPathLayer, TraitBoundLayer, PathLayer, PathSegmentLayer, TypeArrayLayer, TypePathLayer}
use Rattle.node_expr.specs.contracts.expr.ExprPartialEq.TheImpl as expr_eq
use Rattle.node_expr.specs.contracts.generics.TypeParamBoundPartialEq.TheImpl as bound_eq
use Rattle.node_expr.specs.contracts.path.GenericArgumentPartialEq.TheImpl as argument_eq
use Rattle.node_expr.specs.contracts.path.PathArgumentsPartialEq.TheImpl as arguments_eq
use Rattle.node_expr.specs.contracts.ty.TypePartialEq.TheImpl as type_eq
use Rattle.node_expr.specs.contracts.expr.ExprPathPartialEq.TheImpl as expr_path_eq
use Rattle.node_expr.specs.contracts.generics.TraitBoundPartialEq.TheImpl as trait_bound_eq
use Rattle.node_expr.specs.contracts.path.PathPartialEq.TheImpl as path_eq
use Rattle.node_expr.specs.contracts.path.PathSegmentPartialEq.TheImpl as segment_eq
use Rattle.node_expr.specs.contracts.ty.TypeArrayPartialEq.TheImpl as array_eq
use Rattle.node_expr.specs.contracts.ty.TypePathPartialEq.TheImpl as type_path_eq
use Rattle.node_expr.specs.declared.expr.Expr.TheFolds.{ind-Expr, ind-TypeParamBound, ind-GenericArgument, ind-PathArguments, ind-Type, ind-ExprPath, ind-TraitBound, ind-Path, ind-PathSegment, ind-TypeArray, ind-TypePath}
use Rattle.node_expr.specs.declared.expr.Expr.{Expr, roll-Expr}
use Rattle.node_expr.specs.declared.generics.TypeParamBound.{TypeParamBound, roll-TypeParamBound}
use Rattle.node_expr.specs.declared.path.GenericArgument.{GenericArgument, roll-GenericArgument}
use Rattle.node_expr.specs.declared.path.PathArguments.{PathArguments, roll-PathArguments}
use Rattle.node_expr.specs.declared.ty.«Type».{«Type» as Type', roll-Type}
use Rattle.node_expr.specs.declared.expr.ExprPath.{ExprPath, roll-ExprPath}
use Rattle.node_expr.specs.declared.generics.TraitBound.{TraitBound, roll-TraitBound}
use Rattle.node_expr.specs.declared.path.Path.{Path, roll-Path}
use Rattle.node_expr.specs.declared.path.PathSegment.{PathSegment, roll-PathSegment}
use Rattle.node_expr.specs.declared.ty.TypeArray.{TypeArray, roll-TypeArray}
use Rattle.node_expr.specs.declared.ty.TypePath.{TypePath, roll-TypePath}
use Rattle.law_spans.specs.Erased.{erased_expr, erased_bound, erased_argument, erased_arguments, erased_type, erased_expr_path, erased_trait_bound, erased_path, erased_segment, erased_array, erased_type_path}
use Rattle.law_equality.proofs.Deciding.{Told}
use Rattle.law_equality.proofs.Sures.{SureExprLayer, forget_expr, SureTypeParamBoundLayer, forget_bound, SureGenericArgumentLayer, forget_argument, SurePathArgumentsLayer, forget_arguments, SureTypeLayer, forget_type, SureExprPathLayer, forget_expr_path, SureTraitBoundLayer, forget_trait_bound, SurePathLayer, forget_path, SurePathSegmentLayer, forget_segment, SureTypeArrayLayer, forget_array, SureTypePathLayer, forget_type_path}
use Rattle.law_equality.proofs.Arguments.{argument_at}
use Rattle.law_equality.proofs.Bounds.{bound_at, trait_bound_at}
use Rattle.law_equality.proofs.PathArguments.{arguments_at}
use Rattle.law_equality.proofs.Exprs.{expr_at}
use Rattle.law_equality.proofs.Paths.{array_at, expr_path_at, path_at, segment_at, type_path_at}
use Rattle.law_equality.proofs.Types.{type_at}

expr_step : (x : ExprLayer) (y : SureExprLayer) → forget_expr y ≡ x → Told expr_eq.ghosts.eq erased_expr (roll-Expr x)
expr_step x y is = subst (λ x. Told expr_eq.ghosts.eq erased_expr (roll-Expr x)) is (expr_at y)

bound_step : (x : TypeParamBoundLayer) (y : SureTypeParamBoundLayer) → forget_bound y ≡ x → Told bound_eq.ghosts.eq erased_bound (roll-TypeParamBound x)
bound_step x y is = subst (λ x. Told bound_eq.ghosts.eq erased_bound (roll-TypeParamBound x)) is (bound_at y)

argument_step : (x : GenericArgumentLayer) (y : SureGenericArgumentLayer) → forget_argument y ≡ x → Told argument_eq.ghosts.eq erased_argument (roll-GenericArgument x)
argument_step x y is = subst (λ x. Told argument_eq.ghosts.eq erased_argument (roll-GenericArgument x)) is (argument_at y)

arguments_step : (x : PathArgumentsLayer) (y : SurePathArgumentsLayer) → forget_arguments y ≡ x → Told arguments_eq.ghosts.eq erased_arguments (roll-PathArguments x)
arguments_step x y is = subst (λ x. Told arguments_eq.ghosts.eq erased_arguments (roll-PathArguments x)) is (arguments_at y)

type_step : (x : TypeLayer) (y : SureTypeLayer) → forget_type y ≡ x → Told type_eq.ghosts.eq erased_type (roll-Type x)
type_step x y is = subst (λ x. Told type_eq.ghosts.eq erased_type (roll-Type x)) is (type_at y)

expr_path_step : (x : ExprPathLayer) (y : SureExprPathLayer) → forget_expr_path y ≡ x → Told expr_path_eq.ghosts.eq erased_expr_path (roll-ExprPath x)
expr_path_step x y is = subst (λ x. Told expr_path_eq.ghosts.eq erased_expr_path (roll-ExprPath x)) is (expr_path_at y)

trait_bound_step : (x : TraitBoundLayer) (y : SureTraitBoundLayer) → forget_trait_bound y ≡ x → Told trait_bound_eq.ghosts.eq erased_trait_bound (roll-TraitBound x)
trait_bound_step x y is = subst (λ x. Told trait_bound_eq.ghosts.eq erased_trait_bound (roll-TraitBound x)) is (trait_bound_at y)

path_step : (x : PathLayer) (y : SurePathLayer) → forget_path y ≡ x → Told path_eq.ghosts.eq erased_path (roll-Path x)
path_step x y is = subst (λ x. Told path_eq.ghosts.eq erased_path (roll-Path x)) is (path_at y)

segment_step : (x : PathSegmentLayer) (y : SurePathSegmentLayer) → forget_segment y ≡ x → Told segment_eq.ghosts.eq erased_segment (roll-PathSegment x)
segment_step x y is = subst (λ x. Told segment_eq.ghosts.eq erased_segment (roll-PathSegment x)) is (segment_at y)

array_step : (x : TypeArrayLayer) (y : SureTypeArrayLayer) → forget_array y ≡ x → Told array_eq.ghosts.eq erased_array (roll-TypeArray x)
array_step x y is = subst (λ x. Told array_eq.ghosts.eq erased_array (roll-TypeArray x)) is (array_at y)

type_path_step : (x : TypePathLayer) (y : SureTypePathLayer) → forget_type_path y ≡ x → Told type_path_eq.ghosts.eq erased_type_path (roll-TypePath x)
type_path_step x y is = subst (λ x. Told type_path_eq.ghosts.eq erased_type_path (roll-TypePath x)) is (type_path_at y)

pub expr_told : (a : Expr) → Told expr_eq.ghosts.eq erased_expr a
expr_told = ind-Expr (Told expr_eq.ghosts.eq erased_expr) (Told bound_eq.ghosts.eq erased_bound) (Told argument_eq.ghosts.eq erased_argument) (Told arguments_eq.ghosts.eq erased_arguments) (Told type_eq.ghosts.eq erased_type) (Told expr_path_eq.ghosts.eq erased_expr_path) (Told trait_bound_eq.ghosts.eq erased_trait_bound) (Told path_eq.ghosts.eq erased_path) (Told segment_eq.ghosts.eq erased_segment) (Told array_eq.ghosts.eq erased_array) (Told type_path_eq.ghosts.eq erased_type_path)
    expr_step bound_step argument_step arguments_step type_step expr_path_step trait_bound_step path_step segment_step array_step type_path_step

pub bound_told : (a : TypeParamBound) → Told bound_eq.ghosts.eq erased_bound a
bound_told = ind-TypeParamBound (Told expr_eq.ghosts.eq erased_expr) (Told bound_eq.ghosts.eq erased_bound) (Told argument_eq.ghosts.eq erased_argument) (Told arguments_eq.ghosts.eq erased_arguments) (Told type_eq.ghosts.eq erased_type) (Told expr_path_eq.ghosts.eq erased_expr_path) (Told trait_bound_eq.ghosts.eq erased_trait_bound) (Told path_eq.ghosts.eq erased_path) (Told segment_eq.ghosts.eq erased_segment) (Told array_eq.ghosts.eq erased_array) (Told type_path_eq.ghosts.eq erased_type_path)
    expr_step bound_step argument_step arguments_step type_step expr_path_step trait_bound_step path_step segment_step array_step type_path_step

pub argument_told : (a : GenericArgument) → Told argument_eq.ghosts.eq erased_argument a
argument_told = ind-GenericArgument (Told expr_eq.ghosts.eq erased_expr) (Told bound_eq.ghosts.eq erased_bound) (Told argument_eq.ghosts.eq erased_argument) (Told arguments_eq.ghosts.eq erased_arguments) (Told type_eq.ghosts.eq erased_type) (Told expr_path_eq.ghosts.eq erased_expr_path) (Told trait_bound_eq.ghosts.eq erased_trait_bound) (Told path_eq.ghosts.eq erased_path) (Told segment_eq.ghosts.eq erased_segment) (Told array_eq.ghosts.eq erased_array) (Told type_path_eq.ghosts.eq erased_type_path)
    expr_step bound_step argument_step arguments_step type_step expr_path_step trait_bound_step path_step segment_step array_step type_path_step

pub arguments_told : (a : PathArguments) → Told arguments_eq.ghosts.eq erased_arguments a
arguments_told = ind-PathArguments (Told expr_eq.ghosts.eq erased_expr) (Told bound_eq.ghosts.eq erased_bound) (Told argument_eq.ghosts.eq erased_argument) (Told arguments_eq.ghosts.eq erased_arguments) (Told type_eq.ghosts.eq erased_type) (Told expr_path_eq.ghosts.eq erased_expr_path) (Told trait_bound_eq.ghosts.eq erased_trait_bound) (Told path_eq.ghosts.eq erased_path) (Told segment_eq.ghosts.eq erased_segment) (Told array_eq.ghosts.eq erased_array) (Told type_path_eq.ghosts.eq erased_type_path)
    expr_step bound_step argument_step arguments_step type_step expr_path_step trait_bound_step path_step segment_step array_step type_path_step

pub type_told : (a : Type') → Told type_eq.ghosts.eq erased_type a
type_told = ind-Type (Told expr_eq.ghosts.eq erased_expr) (Told bound_eq.ghosts.eq erased_bound) (Told argument_eq.ghosts.eq erased_argument) (Told arguments_eq.ghosts.eq erased_arguments) (Told type_eq.ghosts.eq erased_type) (Told expr_path_eq.ghosts.eq erased_expr_path) (Told trait_bound_eq.ghosts.eq erased_trait_bound) (Told path_eq.ghosts.eq erased_path) (Told segment_eq.ghosts.eq erased_segment) (Told array_eq.ghosts.eq erased_array) (Told type_path_eq.ghosts.eq erased_type_path)
    expr_step bound_step argument_step arguments_step type_step expr_path_step trait_bound_step path_step segment_step array_step type_path_step

pub expr_path_told : (a : ExprPath) → Told expr_path_eq.ghosts.eq erased_expr_path a
expr_path_told = ind-ExprPath (Told expr_eq.ghosts.eq erased_expr) (Told bound_eq.ghosts.eq erased_bound) (Told argument_eq.ghosts.eq erased_argument) (Told arguments_eq.ghosts.eq erased_arguments) (Told type_eq.ghosts.eq erased_type) (Told expr_path_eq.ghosts.eq erased_expr_path) (Told trait_bound_eq.ghosts.eq erased_trait_bound) (Told path_eq.ghosts.eq erased_path) (Told segment_eq.ghosts.eq erased_segment) (Told array_eq.ghosts.eq erased_array) (Told type_path_eq.ghosts.eq erased_type_path)
    expr_step bound_step argument_step arguments_step type_step expr_path_step trait_bound_step path_step segment_step array_step type_path_step

pub trait_bound_told : (a : TraitBound) → Told trait_bound_eq.ghosts.eq erased_trait_bound a
trait_bound_told = ind-TraitBound (Told expr_eq.ghosts.eq erased_expr) (Told bound_eq.ghosts.eq erased_bound) (Told argument_eq.ghosts.eq erased_argument) (Told arguments_eq.ghosts.eq erased_arguments) (Told type_eq.ghosts.eq erased_type) (Told expr_path_eq.ghosts.eq erased_expr_path) (Told trait_bound_eq.ghosts.eq erased_trait_bound) (Told path_eq.ghosts.eq erased_path) (Told segment_eq.ghosts.eq erased_segment) (Told array_eq.ghosts.eq erased_array) (Told type_path_eq.ghosts.eq erased_type_path)
    expr_step bound_step argument_step arguments_step type_step expr_path_step trait_bound_step path_step segment_step array_step type_path_step

pub path_told : (a : Path) → Told path_eq.ghosts.eq erased_path a
path_told = ind-Path (Told expr_eq.ghosts.eq erased_expr) (Told bound_eq.ghosts.eq erased_bound) (Told argument_eq.ghosts.eq erased_argument) (Told arguments_eq.ghosts.eq erased_arguments) (Told type_eq.ghosts.eq erased_type) (Told expr_path_eq.ghosts.eq erased_expr_path) (Told trait_bound_eq.ghosts.eq erased_trait_bound) (Told path_eq.ghosts.eq erased_path) (Told segment_eq.ghosts.eq erased_segment) (Told array_eq.ghosts.eq erased_array) (Told type_path_eq.ghosts.eq erased_type_path)
    expr_step bound_step argument_step arguments_step type_step expr_path_step trait_bound_step path_step segment_step array_step type_path_step

pub segment_told : (a : PathSegment) → Told segment_eq.ghosts.eq erased_segment a
segment_told = ind-PathSegment (Told expr_eq.ghosts.eq erased_expr) (Told bound_eq.ghosts.eq erased_bound) (Told argument_eq.ghosts.eq erased_argument) (Told arguments_eq.ghosts.eq erased_arguments) (Told type_eq.ghosts.eq erased_type) (Told expr_path_eq.ghosts.eq erased_expr_path) (Told trait_bound_eq.ghosts.eq erased_trait_bound) (Told path_eq.ghosts.eq erased_path) (Told segment_eq.ghosts.eq erased_segment) (Told array_eq.ghosts.eq erased_array) (Told type_path_eq.ghosts.eq erased_type_path)
    expr_step bound_step argument_step arguments_step type_step expr_path_step trait_bound_step path_step segment_step array_step type_path_step

pub array_told : (a : TypeArray) → Told array_eq.ghosts.eq erased_array a
array_told = ind-TypeArray (Told expr_eq.ghosts.eq erased_expr) (Told bound_eq.ghosts.eq erased_bound) (Told argument_eq.ghosts.eq erased_argument) (Told arguments_eq.ghosts.eq erased_arguments) (Told type_eq.ghosts.eq erased_type) (Told expr_path_eq.ghosts.eq erased_expr_path) (Told trait_bound_eq.ghosts.eq erased_trait_bound) (Told path_eq.ghosts.eq erased_path) (Told segment_eq.ghosts.eq erased_segment) (Told array_eq.ghosts.eq erased_array) (Told type_path_eq.ghosts.eq erased_type_path)
    expr_step bound_step argument_step arguments_step type_step expr_path_step trait_bound_step path_step segment_step array_step type_path_step

pub type_path_told : (a : TypePath) → Told type_path_eq.ghosts.eq erased_type_path a
type_path_told = ind-TypePath (Told expr_eq.ghosts.eq erased_expr) (Told bound_eq.ghosts.eq erased_bound) (Told argument_eq.ghosts.eq erased_argument) (Told arguments_eq.ghosts.eq erased_arguments) (Told type_eq.ghosts.eq erased_type) (Told expr_path_eq.ghosts.eq erased_expr_path) (Told trait_bound_eq.ghosts.eq erased_trait_bound) (Told path_eq.ghosts.eq erased_path) (Told segment_eq.ghosts.eq erased_segment) (Told array_eq.ghosts.eq erased_array) (Told type_path_eq.ghosts.eq erased_type_path)
    expr_step bound_step argument_step arguments_step type_step expr_path_step trait_bound_step path_step segment_step array_step type_path_step
