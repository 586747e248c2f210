-- How deep a node is: a leaf is 1 deep, and a type or an expression one more than its deepest part.
-- Paths, segments, arguments and bounds are no levels of their own: the types and expressions in them
-- count. A bounded argument, `Item: Copy`, is as deep as `Item = impl Copy`, whose type is a level;
-- else bounds could nest in bounds without a level between.
use Rattle.std.specs.Prelude.{ℕ, suc, max, List, [], ◌∷◌, Option, Some, None}
use Rattle.node_expr.specs.Folds.{Steps, ExprOf, TypeParamBoundOf, GenericArgumentOf, PathArgumentsOf, TypeOf, ExprPathOf, TraitBoundOf, PathOf, PathSegmentOf, TypeArrayOf, TypePathOf, fold_expr, fold_bound, fold_argument, fold_arguments, fold_type, fold_expr_path, fold_trait_bound, fold_path, fold_segment, fold_array, fold_type_path}
use Rattle.node_expr.specs.declared.expr.Expr.{Expr}
use Rattle.node_expr.specs.declared.expr.Expr.TheOpen.{Expr-F, TypeParamBound-F, GenericArgument-F, PathArguments-F, Type-F}
use Rattle.node_expr.specs.declared.expr.ExprPath.{ExprPath}
use Rattle.node_expr.specs.declared.generics.TraitBound.{TraitBound}
use Rattle.node_expr.specs.declared.generics.TypeParamBound.{TypeParamBound}
use Rattle.node_expr.specs.declared.path.GenericArgument.{GenericArgument}
use Rattle.node_expr.specs.declared.path.Path.{Path}
use Rattle.node_expr.specs.declared.path.PathArguments.{PathArguments}
use Rattle.node_expr.specs.declared.path.PathSegment.{PathSegment}
use Rattle.node_expr.specs.declared.path.QSelf.{QSelf}
use Rattle.node_expr.specs.declared.ty.NamedArg.{NamedArg}
use Rattle.node_expr.specs.declared.ty.ReturnType.{ReturnType}
use Rattle.node_expr.specs.declared.ty.ReturnType.TheVariants as output
use Rattle.node_expr.specs.declared.ty.«Type».{«Type» as Type'}
use Rattle.node_expr.specs.declared.ty.TypeArray.{TypeArray}
use Rattle.node_expr.specs.declared.ty.TypePath.{TypePath}

-- the greatest of the depths; 0 where there is none
abbrev pub deepest : List ℕ → ℕ
deepest [] = 0
deepest (depth ∷ more) = max depth (deepest more)

-- of a part that may be left out
abbrev pub optional : Option ℕ → ℕ
optional None = 0
optional (Some depth) = depth

abbrev pub self_depth : Option (QSelf ℕ) → ℕ
self_depth None = 0
self_depth (Some qself) = qself.ty

abbrev pub output_depth : ReturnType ℕ → ℕ
output_depth output.Default = 0
output_depth (output.Ty depth) = depth

abbrev pub inputs_depth : List (NamedArg ℕ) → ℕ
inputs_depth [] = 0
inputs_depth (input ∷ more) = max input.ty (inputs_depth more)

-- a level: an expression whose parts are so deep
abbrev pub expr_step : ExprOf ℕ → ℕ
expr_step (Expr-F.Lit it) = 1
expr_step (Expr-F.Expr::Path path) = suc path
expr_step (Expr-F.Expr::Array it) = suc (deepest it.elems)
expr_step (Expr-F.Repeat expr len span) = suc (max expr len)
expr_step (Expr-F.Expr::Tuple elems span) = suc (deepest elems)
expr_step (Expr-F.Expr::Paren expr span) = suc expr
expr_step (Expr-F.Expr::Group expr span) = suc expr
expr_step (Expr-F.Unary op expr span) = suc expr
expr_step (Expr-F.Expr::Reference mutable expr span) = suc expr
expr_step (Expr-F.Binary left op right span) = suc (max left right)
expr_step (Expr-F.Call func args span) = suc (max func (deepest args))
expr_step (Expr-F.MethodCall receiver method turbofish args span) = suc (max (max receiver (deepest turbofish)) (deepest args))
expr_step (Expr-F.Field base member span) = suc base
expr_step (Expr-F.Index expr index span) = suc (max expr index)
expr_step (Expr-F.Try expr span) = suc expr
expr_step (Expr-F.Range it) = suc (max (optional it.start) (optional it.end))
expr_step (Expr-F.Closure it) = suc it.body
expr_step (Expr-F.Block stmts last span) = suc (max (deepest stmts) (optional last))
expr_step (Expr-F.Expr::Infer span) = 1
expr_step (Expr-F.Verbatim tokens) = 1

-- a level: a type whose parts are so deep
abbrev pub type_step : TypeOf ℕ → ℕ
type_step (Type-F.Type::Path path) = suc path
type_step (Type-F.Type::Reference it) = suc it.elem
type_step (Type-F.Ptr it) = suc it.elem
type_step (Type-F.Slice it) = suc it.elem
type_step (Type-F.Type::Array array) = suc array
type_step (Type-F.Type::Tuple it) = suc (deepest it.elems)
type_step (Type-F.Type::Paren it) = suc it.elem
type_step (Type-F.Type::Group it) = suc it.elem
type_step (Type-F.FnPtr it) = suc (max (inputs_depth it.inputs) (output_depth it.output))
type_step (Type-F.TraitObject it) = suc (deepest it.bounds)
type_step (Type-F.ImplTrait it) = suc (deepest it.bounds)
type_step (Type-F.Never it) = 1
type_step (Type-F.Type::Infer it) = 1

abbrev pub argument_step : GenericArgumentOf ℕ → ℕ
argument_step (GenericArgument-F.GenericArgument::Lifetime it) = 0
argument_step (GenericArgument-F.Ty ty) = ty
argument_step (GenericArgument-F.Const expr) = expr
argument_step (GenericArgument-F.AssocType ident ty span) = ty
argument_step (GenericArgument-F.AssocConst ident value span) = value
argument_step (GenericArgument-F.Constraint ident bounds span) = suc (deepest bounds)

abbrev pub arguments_step : PathArgumentsOf ℕ → ℕ
arguments_step PathArguments-F.None = 0
arguments_step (PathArguments-F.AngleBracketed arguments) = deepest arguments
arguments_step (PathArguments-F.Parenthesized inputs output span) = max (deepest inputs) (output_depth output)

abbrev pub bound_step : TypeParamBoundOf ℕ → ℕ
bound_step (TypeParamBound-F.Trait bound) = bound
bound_step (TypeParamBound-F.TypeParamBound::Lifetime it) = 0

abbrev pub trait_bound_step : TraitBoundOf ℕ → ℕ
trait_bound_step it = it.path

abbrev pub path_step : PathOf ℕ → ℕ
path_step it = deepest it.segments

abbrev pub segment_step : PathSegmentOf ℕ → ℕ
segment_step it = it.arguments

abbrev pub expr_path_step : ExprPathOf ℕ → ℕ
expr_path_step it = max (self_depth it.qself) it.path

abbrev pub type_path_step : TypePathOf ℕ → ℕ
type_path_step it = max (self_depth it.qself) it.path

abbrev pub array_step : TypeArrayOf ℕ → ℕ
array_step it = max it.elem it.len

abbrev pub depth_steps : Steps ℕ
depth_steps = record {
  expr = expr_step;
  bound = bound_step;
  argument = argument_step;
  arguments = arguments_step;
  ty = type_step;
  expr_path = expr_path_step;
  trait_bound = trait_bound_step;
  path = path_step;
  segment = segment_step;
  array = array_step;
  type_path = type_path_step;
}

-- the depth of an expression, at least 1
abbrev pub expr_depth : Expr → ℕ
expr_depth = fold_expr depth_steps

-- the depth of a type, at least 1
abbrev pub type_depth : Type' → ℕ
type_depth = fold_type depth_steps

-- the depth of the deepest type or expression in any other node
abbrev pub bound_depth : TypeParamBound → ℕ
bound_depth = fold_bound depth_steps

abbrev pub argument_depth : GenericArgument → ℕ
argument_depth = fold_argument depth_steps

abbrev pub arguments_depth : PathArguments → ℕ
arguments_depth = fold_arguments depth_steps

abbrev pub trait_bound_depth : TraitBound → ℕ
trait_bound_depth = fold_trait_bound depth_steps

abbrev pub path_depth : Path → ℕ
path_depth = fold_path depth_steps

abbrev pub segment_depth : PathSegment → ℕ
segment_depth = fold_segment depth_steps

abbrev pub expr_path_depth : ExprPath → ℕ
expr_path_depth = fold_expr_path depth_steps

abbrev pub type_path_depth : TypePath → ℕ
type_path_depth = fold_type_path depth_steps

abbrev pub array_depth : TypeArray → ℕ
array_depth = fold_array depth_steps

-- what follows the inputs of a function, and one of them, with depths in the place of types
abbrev pub return_depth : ReturnType Type' → ℕ
return_depth output.Default = 0
return_depth (output.Ty ty) = type_depth ty

abbrev pub input_deep : NamedArg Type' → NamedArg ℕ
input_deep input = record { name = input.name; ty = type_depth input.ty; span = input.span }
