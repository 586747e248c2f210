-- A node without its places is as deep as it was.
use Rattle.std.proofs.Common.{◌≡◌, ℕ, Bool, List, [], ◌∷◌, map, Option, Some, None, refl, sym, subst}
use Rattle.tok_types.specs.declared.ident.Lifetime.{Lifetime}
use Rattle.tok_types.specs.declared.span.Span.{Span}
use Rattle.node_expr.specs.Layers.{ExprLayer, TypeParamBoundLayer, GenericArgumentLayer, PathArgumentsLayer, TypeLayer, ExprPathLayer, TraitBoundLayer, PathLayer, PathSegmentLayer, TypeArrayLayer, TypePathLayer}
use Rattle.node_expr.specs.declared.expr.Expr.{Expr, roll-Expr}
use Rattle.node_expr.specs.declared.expr.Expr.TheFolds.{ind-Expr, ind-TypeParamBound, ind-GenericArgument, ind-PathArguments, ind-Type, ind-ExprPath, ind-TraitBound, ind-Path, ind-PathSegment, ind-TypeArray, ind-TypePath, map-Expr, map-TypeParamBound, map-GenericArgument, map-PathArguments, map-Type, map-ExprPath, map-TraitBound, map-Path, map-PathSegment, map-TypeArray, map-TypePath}
use Rattle.node_expr.specs.declared.expr.Expr.TheOpen.{Expr-F, TypeParamBound-F, GenericArgument-F, PathArguments-F, Type-F, ExprPath-F, TraitBound-F, Path-F, PathSegment-F, TypeArray-F, TypePath-F}
use Rattle.node_expr.specs.declared.expr.Expr.TheVariants as expr
use Rattle.node_expr.specs.declared.expr.ExprPath.{ExprPath, roll-ExprPath}
use Rattle.node_expr.specs.declared.generics.TraitBound.{TraitBound, roll-TraitBound}
use Rattle.node_expr.specs.declared.generics.TypeParamBound.{TypeParamBound, roll-TypeParamBound}
use Rattle.node_expr.specs.declared.generics.TypeParamBound.TheVariants as bound
use Rattle.node_expr.specs.declared.path.GenericArgument.{GenericArgument, roll-GenericArgument}
use Rattle.node_expr.specs.declared.path.GenericArgument.TheVariants as argument
use Rattle.node_expr.specs.declared.path.Path.{Path, roll-Path}
use Rattle.node_expr.specs.declared.path.PathArguments.{PathArguments, roll-PathArguments}
use Rattle.node_expr.specs.declared.path.PathArguments.TheVariants as arguments
use Rattle.node_expr.specs.declared.path.PathSegment.{PathSegment, roll-PathSegment}
use Rattle.node_expr.specs.declared.path.QSelf.{QSelf}
use Rattle.node_expr.specs.declared.ty.NamedArg.{NamedArg}
use Rattle.node_expr.specs.declared.ty.ReturnType.{ReturnType}
use Rattle.node_expr.specs.declared.ty.ReturnType.TheVariants as output
use Rattle.node_expr.specs.declared.ty.«Type».{«Type» as Type', roll-Type}
use Rattle.node_expr.specs.declared.ty.«Type».TheVariants as ty
use Rattle.node_expr.specs.declared.ty.TypeArray.{TypeArray, roll-TypeArray}
use Rattle.node_expr.specs.declared.ty.TypePath.{TypePath, roll-TypePath}
use Rattle.syn_grammar.specs.Depth.{deepest, inputs_depth, input_deep, expr_depth, bound_depth, argument_depth, arguments_depth, type_depth, expr_path_depth, trait_bound_depth, path_depth, segment_depth, array_depth, type_path_depth}
use Rattle.syn_grammar.proofs.Depths.{depths}
use Rattle.law_spans.specs.Erased.{erased_named_arg, erased_expr, erased_bound, erased_argument, erased_arguments, erased_type, erased_expr_path, erased_trait_bound, erased_path, erased_segment, erased_array, erased_type_path}
use Rattle.law_spans.proofs.Made.{erased_nodes, bare_type-Never, bare_type-Infer}

-- a node with the proof that its depth stays, and the list of them
abbrev Keeps : {A : Type 0} → (A → ℕ) → (A → A) → A → Type 0
Keeps depth bare node = depth (bare node) ≡ depth node

abbrev Sure : (A : Type 0) → (A → ℕ) → (A → A) → Type 0
Sure A depth bare = (node : A) × Keeps depth bare node

deepest-sure : {A : Type 0} (depth : A → ℕ) (bare : A → A) (sures : List (Sure A depth bare)) → deepest (map depth (map bare (map (λ e. e.0) sures))) ≡ deepest (map depth (map (λ e. e.0) sures))
deepest-sure depth bare [] = refl
deepest-sure depth bare (sure ∷ sures) = rw (sure.1, deepest-sure depth bare sures) refl

abbrev SureExpr : Type 0
SureExpr = Sure Expr expr_depth erased_expr

abbrev SureTypeParamBound : Type 0
SureTypeParamBound = Sure TypeParamBound bound_depth erased_bound

abbrev SureGenericArgument : Type 0
SureGenericArgument = Sure GenericArgument argument_depth erased_argument

abbrev SurePathArguments : Type 0
SurePathArguments = Sure PathArguments arguments_depth erased_arguments

abbrev SureType : Type 0
SureType = Sure Type' type_depth erased_type

abbrev SureExprPath : Type 0
SureExprPath = Sure ExprPath expr_path_depth erased_expr_path

abbrev SureTraitBound : Type 0
SureTraitBound = Sure TraitBound trait_bound_depth erased_trait_bound

abbrev SurePath : Type 0
SurePath = Sure Path path_depth erased_path

abbrev SurePathSegment : Type 0
SurePathSegment = Sure PathSegment segment_depth erased_segment

abbrev SureTypeArray : Type 0
SureTypeArray = Sure TypeArray array_depth erased_array

abbrev SureTypePath : Type 0
SureTypePath = Sure TypePath type_path_depth erased_type_path

abbrev forget_expr : Expr-F SureExpr SureTypeParamBound SureGenericArgument SurePathArguments SureType SureExprPath SureTraitBound SurePath SurePathSegment SureTypeArray SureTypePath → ExprLayer
forget_expr = map-Expr SureExpr SureTypeParamBound SureGenericArgument SurePathArguments SureType SureExprPath SureTraitBound SurePath SurePathSegment SureTypeArray SureTypePath Expr TypeParamBound GenericArgument PathArguments Type' ExprPath TraitBound Path PathSegment TypeArray TypePath (λ e. e.0) (λ e. e.0) (λ e. e.0) (λ e. e.0) (λ e. e.0) (λ e. e.0) (λ e. e.0) (λ e. e.0) (λ e. e.0) (λ e. e.0) (λ e. e.0)

abbrev forget_bound : TypeParamBound-F SureExpr SureTypeParamBound SureGenericArgument SurePathArguments SureType SureExprPath SureTraitBound SurePath SurePathSegment SureTypeArray SureTypePath → TypeParamBoundLayer
forget_bound = map-TypeParamBound SureExpr SureTypeParamBound SureGenericArgument SurePathArguments SureType SureExprPath SureTraitBound SurePath SurePathSegment SureTypeArray SureTypePath Expr TypeParamBound GenericArgument PathArguments Type' ExprPath TraitBound Path PathSegment TypeArray TypePath (λ e. e.0) (λ e. e.0) (λ e. e.0) (λ e. e.0) (λ e. e.0) (λ e. e.0) (λ e. e.0) (λ e. e.0) (λ e. e.0) (λ e. e.0) (λ e. e.0)

abbrev forget_argument : GenericArgument-F SureExpr SureTypeParamBound SureGenericArgument SurePathArguments SureType SureExprPath SureTraitBound SurePath SurePathSegment SureTypeArray SureTypePath → GenericArgumentLayer
forget_argument = map-GenericArgument SureExpr SureTypeParamBound SureGenericArgument SurePathArguments SureType SureExprPath SureTraitBound SurePath SurePathSegment SureTypeArray SureTypePath Expr TypeParamBound GenericArgument PathArguments Type' ExprPath TraitBound Path PathSegment TypeArray TypePath (λ e. e.0) (λ e. e.0) (λ e. e.0) (λ e. e.0) (λ e. e.0) (λ e. e.0) (λ e. e.0) (λ e. e.0) (λ e. e.0) (λ e. e.0) (λ e. e.0)

abbrev forget_arguments : PathArguments-F SureExpr SureTypeParamBound SureGenericArgument SurePathArguments SureType SureExprPath SureTraitBound SurePath SurePathSegment SureTypeArray SureTypePath → PathArgumentsLayer
forget_arguments = map-PathArguments SureExpr SureTypeParamBound SureGenericArgument SurePathArguments SureType SureExprPath SureTraitBound SurePath SurePathSegment SureTypeArray SureTypePath Expr TypeParamBound GenericArgument PathArguments Type' ExprPath TraitBound Path PathSegment TypeArray TypePath (λ e. e.0) (λ e. e.0) (λ e. e.0) (λ e. e.0) (λ e. e.0) (λ e. e.0) (λ e. e.0) (λ e. e.0) (λ e. e.0) (λ e. e.0) (λ e. e.0)

abbrev forget_type : Type-F SureExpr SureTypeParamBound SureGenericArgument SurePathArguments SureType SureExprPath SureTraitBound SurePath SurePathSegment SureTypeArray SureTypePath → TypeLayer
forget_type = map-Type SureExpr SureTypeParamBound SureGenericArgument SurePathArguments SureType SureExprPath SureTraitBound SurePath SurePathSegment SureTypeArray SureTypePath Expr TypeParamBound GenericArgument PathArguments Type' ExprPath TraitBound Path PathSegment TypeArray TypePath (λ e. e.0) (λ e. e.0) (λ e. e.0) (λ e. e.0) (λ e. e.0) (λ e. e.0) (λ e. e.0) (λ e. e.0) (λ e. e.0) (λ e. e.0) (λ e. e.0)

abbrev forget_expr_path : ExprPath-F SureExpr SureTypeParamBound SureGenericArgument SurePathArguments SureType SureExprPath SureTraitBound SurePath SurePathSegment SureTypeArray SureTypePath → ExprPathLayer
forget_expr_path = map-ExprPath SureExpr SureTypeParamBound SureGenericArgument SurePathArguments SureType SureExprPath SureTraitBound SurePath SurePathSegment SureTypeArray SureTypePath Expr TypeParamBound GenericArgument PathArguments Type' ExprPath TraitBound Path PathSegment TypeArray TypePath (λ e. e.0) (λ e. e.0) (λ e. e.0) (λ e. e.0) (λ e. e.0) (λ e. e.0) (λ e. e.0) (λ e. e.0) (λ e. e.0) (λ e. e.0) (λ e. e.0)

abbrev forget_trait_bound : TraitBound-F SureExpr SureTypeParamBound SureGenericArgument SurePathArguments SureType SureExprPath SureTraitBound SurePath SurePathSegment SureTypeArray SureTypePath → TraitBoundLayer
forget_trait_bound = map-TraitBound SureExpr SureTypeParamBound SureGenericArgument SurePathArguments SureType SureExprPath SureTraitBound SurePath SurePathSegment SureTypeArray SureTypePath Expr TypeParamBound GenericArgument PathArguments Type' ExprPath TraitBound Path PathSegment TypeArray TypePath (λ e. e.0) (λ e. e.0) (λ e. e.0) (λ e. e.0) (λ e. e.0) (λ e. e.0) (λ e. e.0) (λ e. e.0) (λ e. e.0) (λ e. e.0) (λ e. e.0)

abbrev forget_path : Path-F SureExpr SureTypeParamBound SureGenericArgument SurePathArguments SureType SureExprPath SureTraitBound SurePath SurePathSegment SureTypeArray SureTypePath → PathLayer
forget_path = map-Path SureExpr SureTypeParamBound SureGenericArgument SurePathArguments SureType SureExprPath SureTraitBound SurePath SurePathSegment SureTypeArray SureTypePath Expr TypeParamBound GenericArgument PathArguments Type' ExprPath TraitBound Path PathSegment TypeArray TypePath (λ e. e.0) (λ e. e.0) (λ e. e.0) (λ e. e.0) (λ e. e.0) (λ e. e.0) (λ e. e.0) (λ e. e.0) (λ e. e.0) (λ e. e.0) (λ e. e.0)

abbrev forget_segment : PathSegment-F SureExpr SureTypeParamBound SureGenericArgument SurePathArguments SureType SureExprPath SureTraitBound SurePath SurePathSegment SureTypeArray SureTypePath → PathSegmentLayer
forget_segment = map-PathSegment SureExpr SureTypeParamBound SureGenericArgument SurePathArguments SureType SureExprPath SureTraitBound SurePath SurePathSegment SureTypeArray SureTypePath Expr TypeParamBound GenericArgument PathArguments Type' ExprPath TraitBound Path PathSegment TypeArray TypePath (λ e. e.0) (λ e. e.0) (λ e. e.0) (λ e. e.0) (λ e. e.0) (λ e. e.0) (λ e. e.0) (λ e. e.0) (λ e. e.0) (λ e. e.0) (λ e. e.0)

abbrev forget_array : TypeArray-F SureExpr SureTypeParamBound SureGenericArgument SurePathArguments SureType SureExprPath SureTraitBound SurePath SurePathSegment SureTypeArray SureTypePath → TypeArrayLayer
forget_array = map-TypeArray SureExpr SureTypeParamBound SureGenericArgument SurePathArguments SureType SureExprPath SureTraitBound SurePath SurePathSegment SureTypeArray SureTypePath Expr TypeParamBound GenericArgument PathArguments Type' ExprPath TraitBound Path PathSegment TypeArray TypePath (λ e. e.0) (λ e. e.0) (λ e. e.0) (λ e. e.0) (λ e. e.0) (λ e. e.0) (λ e. e.0) (λ e. e.0) (λ e. e.0) (λ e. e.0) (λ e. e.0)

abbrev forget_type_path : TypePath-F SureExpr SureTypeParamBound SureGenericArgument SurePathArguments SureType SureExprPath SureTraitBound SurePath SurePathSegment SureTypeArray SureTypePath → TypePathLayer
forget_type_path = map-TypePath SureExpr SureTypeParamBound SureGenericArgument SurePathArguments SureType SureExprPath SureTraitBound SurePath SurePathSegment SureTypeArray SureTypePath Expr TypeParamBound GenericArgument PathArguments Type' ExprPath TraitBound Path PathSegment TypeArray TypePath (λ e. e.0) (λ e. e.0) (λ e. e.0) (λ e. e.0) (λ e. e.0) (λ e. e.0) (λ e. e.0) (λ e. e.0) (λ e. e.0) (λ e. e.0) (λ e. e.0)

-- ---- one level

range_at : (start end : Option SureExpr) (closed : Bool) (span : Span) → Keeps expr_depth erased_expr (roll-Expr (forget_expr (Expr-F.Range (record { start = start; end = end; closed = closed; span = span }))))
range_at None None closed span = subst (Keeps expr_depth erased_expr) (sym (expr.rolls-Range (record { start = None; end = None; closed = closed; span = span }))) (simp (erased_nodes, depths))
range_at None (Some end) closed span = subst (Keeps expr_depth erased_expr) (sym (expr.rolls-Range (record { start = None; end = (Some end.0); closed = closed; span = span }))) (simp (erased_nodes, depths, end.1))
range_at (Some start) None closed span = subst (Keeps expr_depth erased_expr) (sym (expr.rolls-Range (record { start = (Some start.0); end = None; closed = closed; span = span }))) (simp (erased_nodes, depths, start.1))
range_at (Some start) (Some end) closed span = subst (Keeps expr_depth erased_expr) (sym (expr.rolls-Range (record { start = (Some start.0); end = (Some end.0); closed = closed; span = span }))) (simp (erased_nodes, depths, start.1, end.1))

expr_at : (y : Expr-F SureExpr SureTypeParamBound SureGenericArgument SurePathArguments SureType SureExprPath SureTraitBound SurePath SurePathSegment SureTypeArray SureTypePath) → Keeps expr_depth erased_expr (roll-Expr (forget_expr y))
expr_at (Expr-F.Lit it) = subst (Keeps expr_depth erased_expr) (sym (expr.rolls-Lit it)) (simp (erased_nodes, depths))
expr_at (Expr-F.Expr::Path it) = subst (Keeps expr_depth erased_expr) (sym (expr.rolls-Path it.0)) (simp (erased_nodes, depths, it.1))
expr_at (Expr-F.Expr::Array it) = subst (Keeps expr_depth erased_expr) (sym (expr.rolls-Array (record { elems = map (λ e. e.0) it.elems; span = it.span }))) (simp (erased_nodes, depths, deepest-sure expr_depth erased_expr it.elems))
expr_at (Expr-F.Repeat elem len span) = subst (Keeps expr_depth erased_expr) (sym (expr.rolls-Repeat elem.0 len.0 span)) (simp (erased_nodes, depths, elem.1, len.1))
expr_at (Expr-F.Expr::Tuple elems span) = subst (Keeps expr_depth erased_expr) (sym (expr.rolls-Tuple (map (λ e. e.0) elems) span)) (simp (erased_nodes, depths, deepest-sure expr_depth erased_expr elems))
expr_at (Expr-F.Expr::Paren inner span) = subst (Keeps expr_depth erased_expr) (sym (expr.rolls-Paren inner.0 span)) (simp (erased_nodes, depths, inner.1))
expr_at (Expr-F.Expr::Group inner span) = subst (Keeps expr_depth erased_expr) (sym (expr.rolls-Group inner.0 span)) (simp (erased_nodes, depths, inner.1))
expr_at (Expr-F.Unary op inner span) = subst (Keeps expr_depth erased_expr) (sym (expr.rolls-Unary op inner.0 span)) (simp (erased_nodes, depths, inner.1))
expr_at (Expr-F.Expr::Reference mutable inner span) = subst (Keeps expr_depth erased_expr) (sym (expr.rolls-Reference mutable inner.0 span)) (simp (erased_nodes, depths, inner.1))
expr_at (Expr-F.Binary left op right span) = subst (Keeps expr_depth erased_expr) (sym (expr.rolls-Binary left.0 op right.0 span)) (simp (erased_nodes, depths, left.1, right.1))
expr_at (Expr-F.Call func args span) = subst (Keeps expr_depth erased_expr) (sym (expr.rolls-Call func.0 (map (λ e. e.0) args) span)) (simp (erased_nodes, depths, func.1, deepest-sure expr_depth erased_expr args))
expr_at (Expr-F.MethodCall receiver method turbofish args span) = subst (Keeps expr_depth erased_expr) (sym (expr.rolls-MethodCall receiver.0 method (map (λ e. e.0) turbofish) (map (λ e. e.0) args) span)) (simp (erased_nodes, depths, receiver.1, deepest-sure argument_depth erased_argument turbofish, deepest-sure expr_depth erased_expr args))
expr_at (Expr-F.Field base member span) = subst (Keeps expr_depth erased_expr) (sym (expr.rolls-Field base.0 member span)) (simp (erased_nodes, depths, base.1))
expr_at (Expr-F.Index base at span) = subst (Keeps expr_depth erased_expr) (sym (expr.rolls-Index base.0 at.0 span)) (simp (erased_nodes, depths, base.1, at.1))
expr_at (Expr-F.Try inner span) = subst (Keeps expr_depth erased_expr) (sym (expr.rolls-Try inner.0 span)) (simp (erased_nodes, depths, inner.1))
expr_at (Expr-F.Closure it) = subst (Keeps expr_depth erased_expr) (sym (expr.rolls-Closure (record { tokens = it.tokens; body = it.body.0; span = it.span }))) (simp (erased_nodes, depths, it.body.1))
expr_at (Expr-F.Block stmts None span) = subst (Keeps expr_depth erased_expr) (sym (expr.rolls-Block (map (λ e. e.0) stmts) None span)) (simp (erased_nodes, depths, deepest-sure expr_depth erased_expr stmts))
expr_at (Expr-F.Block stmts (Some last) span) = subst (Keeps expr_depth erased_expr) (sym (expr.rolls-Block (map (λ e. e.0) stmts) (Some last.0) span)) (simp (erased_nodes, depths, deepest-sure expr_depth erased_expr stmts, last.1))
expr_at (Expr-F.Expr::Infer span) = subst (Keeps expr_depth erased_expr) (sym (expr.rolls-Infer span)) (simp (erased_nodes, depths))
expr_at (Expr-F.Verbatim it) = subst (Keeps expr_depth erased_expr) (sym (expr.rolls-Verbatim it)) (simp (erased_nodes, depths))
expr_at (Expr-F.Range it) = range_at it.start it.end it.closed it.span

inputs-sure : (inputs : List (NamedArg SureType))
    → inputs_depth (map input_deep (map erased_named_arg (map (λ input. record { name = input.name; ty = input.ty.0; span = input.span }) inputs)))
    ≡ inputs_depth (map input_deep (map (λ input. record { name = input.name; ty = input.ty.0; span = input.span }) inputs))
inputs-sure [] = refl
inputs-sure (input ∷ inputs) = rw (input.ty.1, inputs-sure inputs) refl

fn_ptr_at : (lifetimes : List Lifetime) (inputs : List (NamedArg SureType)) (output : ReturnType SureType) (span : Span) → Keeps type_depth erased_type (roll-Type (forget_type (Type-F.FnPtr (record { lifetimes = lifetimes; inputs = inputs; output = output; span = span }))))
fn_ptr_at lifetimes inputs output.Default span = subst (Keeps type_depth erased_type) (sym (ty.rolls-FnPtr (record { lifetimes = lifetimes; inputs = (map (λ input. record { name = input.name; ty = input.ty.0; span = input.span }) inputs); output = output.Default; span = span }))) (simp (erased_nodes, depths, inputs-sure inputs))
fn_ptr_at lifetimes inputs (output.Ty it) span = subst (Keeps type_depth erased_type) (sym (ty.rolls-FnPtr (record { lifetimes = lifetimes; inputs = (map (λ input. record { name = input.name; ty = input.ty.0; span = input.span }) inputs); output = output.Ty it.0; span = span }))) (simp (erased_nodes, depths, inputs-sure inputs, it.1))

type_at : (y : Type-F SureExpr SureTypeParamBound SureGenericArgument SurePathArguments SureType SureExprPath SureTraitBound SurePath SurePathSegment SureTypeArray SureTypePath) → Keeps type_depth erased_type (roll-Type (forget_type y))
type_at (Type-F.Type::Path it) = subst (Keeps type_depth erased_type) (sym (ty.rolls-Path it.0)) (simp (erased_nodes, depths, it.1))
type_at (Type-F.Type::Reference it) = subst (Keeps type_depth erased_type) (sym (ty.rolls-Reference (record { lifetime = it.lifetime; mutable = it.mutable; elem = it.elem.0; span = it.span }))) (simp (erased_nodes, depths, it.elem.1))
type_at (Type-F.Ptr it) = subst (Keeps type_depth erased_type) (sym (ty.rolls-Ptr (record { mutable = it.mutable; elem = it.elem.0; span = it.span }))) (simp (erased_nodes, depths, it.elem.1))
type_at (Type-F.Slice it) = subst (Keeps type_depth erased_type) (sym (ty.rolls-Slice (record { elem = it.elem.0; span = it.span }))) (simp (erased_nodes, depths, it.elem.1))
type_at (Type-F.Type::Array it) = subst (Keeps type_depth erased_type) (sym (ty.rolls-Array it.0)) (simp (erased_nodes, depths, it.1))
type_at (Type-F.Type::Tuple it) = subst (Keeps type_depth erased_type) (sym (ty.rolls-Tuple (record { elems = map (λ e. e.0) it.elems; span = it.span }))) (simp (erased_nodes, depths, deepest-sure type_depth erased_type it.elems))
type_at (Type-F.Type::Paren it) = subst (Keeps type_depth erased_type) (sym (ty.rolls-Paren (record { elem = it.elem.0; span = it.span }))) (simp (erased_nodes, depths, it.elem.1))
type_at (Type-F.Type::Group it) = subst (Keeps type_depth erased_type) (sym (ty.rolls-Group (record { elem = it.elem.0; span = it.span }))) (simp (erased_nodes, depths, it.elem.1))
type_at (Type-F.TraitObject it) = subst (Keeps type_depth erased_type) (sym (ty.rolls-TraitObject (record { bounds = map (λ e. e.0) it.bounds; span = it.span }))) (simp (erased_nodes, depths, deepest-sure bound_depth erased_bound it.bounds))
type_at (Type-F.ImplTrait it) = subst (Keeps type_depth erased_type) (sym (ty.rolls-ImplTrait (record { bounds = map (λ e. e.0) it.bounds; span = it.span }))) (simp (erased_nodes, depths, deepest-sure bound_depth erased_bound it.bounds))
type_at (Type-F.Never it) = subst (Keeps type_depth erased_type) (sym (ty.rolls-Never it)) (simp (depths, bare_type-Never it.span))
type_at (Type-F.Type::Infer it) = subst (Keeps type_depth erased_type) (sym (ty.rolls-Infer it)) (simp (depths, bare_type-Infer it.span))
type_at (Type-F.FnPtr it) = fn_ptr_at it.lifetimes it.inputs it.output it.span

argument_at : (y : GenericArgument-F SureExpr SureTypeParamBound SureGenericArgument SurePathArguments SureType SureExprPath SureTraitBound SurePath SurePathSegment SureTypeArray SureTypePath) → Keeps argument_depth erased_argument (roll-GenericArgument (forget_argument y))
argument_at (GenericArgument-F.GenericArgument::Lifetime it) = subst (Keeps argument_depth erased_argument) (sym (argument.rolls-Lifetime it)) (simp (erased_nodes, depths))
argument_at (GenericArgument-F.Ty it) = subst (Keeps argument_depth erased_argument) (sym (argument.rolls-Ty it.0)) (simp (erased_nodes, depths, it.1))
argument_at (GenericArgument-F.Const it) = subst (Keeps argument_depth erased_argument) (sym (argument.rolls-Const it.0)) (simp (erased_nodes, depths, it.1))
argument_at (GenericArgument-F.AssocType ident it span) = subst (Keeps argument_depth erased_argument) (sym (argument.rolls-AssocType ident it.0 span)) (simp (erased_nodes, depths, it.1))
argument_at (GenericArgument-F.AssocConst ident it span) = subst (Keeps argument_depth erased_argument) (sym (argument.rolls-AssocConst ident it.0 span)) (simp (erased_nodes, depths, it.1))
argument_at (GenericArgument-F.Constraint ident bounds span) = subst (Keeps argument_depth erased_argument) (sym (argument.rolls-Constraint ident (map (λ e. e.0) bounds) span)) (simp (erased_nodes, depths, deepest-sure bound_depth erased_bound bounds))

arguments_at : (y : PathArguments-F SureExpr SureTypeParamBound SureGenericArgument SurePathArguments SureType SureExprPath SureTraitBound SurePath SurePathSegment SureTypeArray SureTypePath) → Keeps arguments_depth erased_arguments (roll-PathArguments (forget_arguments y))
arguments_at PathArguments-F.None = subst (Keeps arguments_depth erased_arguments) (sym arguments.rolls-None) (simp (erased_nodes, depths))
arguments_at (PathArguments-F.AngleBracketed args) = subst (Keeps arguments_depth erased_arguments) (sym (arguments.rolls-AngleBracketed (map (λ e. e.0) args))) (simp (erased_nodes, depths, deepest-sure argument_depth erased_argument args))
arguments_at (PathArguments-F.Parenthesized inputs output.Default span) = subst (Keeps arguments_depth erased_arguments) (sym (arguments.rolls-Parenthesized (map (λ e. e.0) inputs) output.Default span)) (simp (erased_nodes, depths, deepest-sure type_depth erased_type inputs))
arguments_at (PathArguments-F.Parenthesized inputs (output.Ty it) span) = subst (Keeps arguments_depth erased_arguments) (sym (arguments.rolls-Parenthesized (map (λ e. e.0) inputs) (output.Ty it.0) span)) (simp (erased_nodes, depths, deepest-sure type_depth erased_type inputs, it.1))

bound_at : (y : TypeParamBound-F SureExpr SureTypeParamBound SureGenericArgument SurePathArguments SureType SureExprPath SureTraitBound SurePath SurePathSegment SureTypeArray SureTypePath) → Keeps bound_depth erased_bound (roll-TypeParamBound (forget_bound y))
bound_at (TypeParamBound-F.Trait it) = subst (Keeps bound_depth erased_bound) (sym (bound.rolls-Trait it.0)) (simp (erased_nodes, depths, it.1))
bound_at (TypeParamBound-F.TypeParamBound::Lifetime it) = subst (Keeps bound_depth erased_bound) (sym (bound.rolls-Lifetime it)) (simp (erased_nodes, depths))

trait_bound_at : (y : TraitBound-F SureExpr SureTypeParamBound SureGenericArgument SurePathArguments SureType SureExprPath SureTraitBound SurePath SurePathSegment SureTypeArray SureTypePath) → Keeps trait_bound_depth erased_trait_bound (roll-TraitBound (forget_trait_bound y))
trait_bound_at y = simp (erased_nodes, depths, y.path.1)

path_at : (y : Path-F SureExpr SureTypeParamBound SureGenericArgument SurePathArguments SureType SureExprPath SureTraitBound SurePath SurePathSegment SureTypeArray SureTypePath) → Keeps path_depth erased_path (roll-Path (forget_path y))
path_at y = simp (erased_nodes, depths, deepest-sure segment_depth erased_segment y.segments)

segment_at : (y : PathSegment-F SureExpr SureTypeParamBound SureGenericArgument SurePathArguments SureType SureExprPath SureTraitBound SurePath SurePathSegment SureTypeArray SureTypePath) → Keeps segment_depth erased_segment (roll-PathSegment (forget_segment y))
segment_at y = simp (erased_nodes, depths, y.arguments.1)

array_at : (y : TypeArray-F SureExpr SureTypeParamBound SureGenericArgument SurePathArguments SureType SureExprPath SureTraitBound SurePath SurePathSegment SureTypeArray SureTypePath) → Keeps array_depth erased_array (roll-TypeArray (forget_array y))
array_at y = simp (erased_nodes, depths, y.elem.1, y.len.1)

expr_path_of : (qself : Option (QSelf SureType)) (path : SurePath) (span : Span) → Keeps expr_path_depth erased_expr_path (roll-ExprPath (forget_expr_path (record { qself = qself; path = path; span = span })))
expr_path_of None path span = simp (erased_nodes, depths, path.1)
expr_path_of (Some self) path span = simp (erased_nodes, depths, self.ty.1, path.1)

expr_path_at : (y : ExprPath-F SureExpr SureTypeParamBound SureGenericArgument SurePathArguments SureType SureExprPath SureTraitBound SurePath SurePathSegment SureTypeArray SureTypePath) → Keeps expr_path_depth erased_expr_path (roll-ExprPath (forget_expr_path y))
expr_path_at y = expr_path_of y.qself y.path y.span

type_path_of : (qself : Option (QSelf SureType)) (path : SurePath) (span : Span) → Keeps type_path_depth erased_type_path (roll-TypePath (forget_type_path (record { qself = qself; path = path; span = span })))
type_path_of None path span = simp (erased_nodes, depths, path.1)
type_path_of (Some self) path span = simp (erased_nodes, depths, self.ty.1, path.1)

type_path_at : (y : TypePath-F SureExpr SureTypeParamBound SureGenericArgument SurePathArguments SureType SureExprPath SureTraitBound SurePath SurePathSegment SureTypeArray SureTypePath) → Keeps type_path_depth erased_type_path (roll-TypePath (forget_type_path y))
type_path_at y = type_path_of y.qself y.path y.span

-- ---- whole nodes

expr_step : (x : ExprLayer) (y : Expr-F SureExpr SureTypeParamBound SureGenericArgument SurePathArguments SureType SureExprPath SureTraitBound SurePath SurePathSegment SureTypeArray SureTypePath) → forget_expr y ≡ x → Keeps expr_depth erased_expr (roll-Expr x)
expr_step x y is = subst (λ x. Keeps expr_depth erased_expr (roll-Expr x)) is (expr_at y)

bound_step : (x : TypeParamBoundLayer) (y : TypeParamBound-F SureExpr SureTypeParamBound SureGenericArgument SurePathArguments SureType SureExprPath SureTraitBound SurePath SurePathSegment SureTypeArray SureTypePath) → forget_bound y ≡ x → Keeps bound_depth erased_bound (roll-TypeParamBound x)
bound_step x y is = subst (λ x. Keeps bound_depth erased_bound (roll-TypeParamBound x)) is (bound_at y)

argument_step : (x : GenericArgumentLayer) (y : GenericArgument-F SureExpr SureTypeParamBound SureGenericArgument SurePathArguments SureType SureExprPath SureTraitBound SurePath SurePathSegment SureTypeArray SureTypePath) → forget_argument y ≡ x → Keeps argument_depth erased_argument (roll-GenericArgument x)
argument_step x y is = subst (λ x. Keeps argument_depth erased_argument (roll-GenericArgument x)) is (argument_at y)

arguments_step : (x : PathArgumentsLayer) (y : PathArguments-F SureExpr SureTypeParamBound SureGenericArgument SurePathArguments SureType SureExprPath SureTraitBound SurePath SurePathSegment SureTypeArray SureTypePath) → forget_arguments y ≡ x → Keeps arguments_depth erased_arguments (roll-PathArguments x)
arguments_step x y is = subst (λ x. Keeps arguments_depth erased_arguments (roll-PathArguments x)) is (arguments_at y)

type_step : (x : TypeLayer) (y : Type-F SureExpr SureTypeParamBound SureGenericArgument SurePathArguments SureType SureExprPath SureTraitBound SurePath SurePathSegment SureTypeArray SureTypePath) → forget_type y ≡ x → Keeps type_depth erased_type (roll-Type x)
type_step x y is = subst (λ x. Keeps type_depth erased_type (roll-Type x)) is (type_at y)

expr_path_step : (x : ExprPathLayer) (y : ExprPath-F SureExpr SureTypeParamBound SureGenericArgument SurePathArguments SureType SureExprPath SureTraitBound SurePath SurePathSegment SureTypeArray SureTypePath) → forget_expr_path y ≡ x → Keeps expr_path_depth erased_expr_path (roll-ExprPath x)
expr_path_step x y is = subst (λ x. Keeps expr_path_depth erased_expr_path (roll-ExprPath x)) is (expr_path_at y)

trait_bound_step : (x : TraitBoundLayer) (y : TraitBound-F SureExpr SureTypeParamBound SureGenericArgument SurePathArguments SureType SureExprPath SureTraitBound SurePath SurePathSegment SureTypeArray SureTypePath) → forget_trait_bound y ≡ x → Keeps trait_bound_depth erased_trait_bound (roll-TraitBound x)
trait_bound_step x y is = subst (λ x. Keeps trait_bound_depth erased_trait_bound (roll-TraitBound x)) is (trait_bound_at y)

path_step : (x : PathLayer) (y : Path-F SureExpr SureTypeParamBound SureGenericArgument SurePathArguments SureType SureExprPath SureTraitBound SurePath SurePathSegment SureTypeArray SureTypePath) → forget_path y ≡ x → Keeps path_depth erased_path (roll-Path x)
path_step x y is = subst (λ x. Keeps path_depth erased_path (roll-Path x)) is (path_at y)

segment_step : (x : PathSegmentLayer) (y : PathSegment-F SureExpr SureTypeParamBound SureGenericArgument SurePathArguments SureType SureExprPath SureTraitBound SurePath SurePathSegment SureTypeArray SureTypePath) → forget_segment y ≡ x → Keeps segment_depth erased_segment (roll-PathSegment x)
segment_step x y is = subst (λ x. Keeps segment_depth erased_segment (roll-PathSegment x)) is (segment_at y)

array_step : (x : TypeArrayLayer) (y : TypeArray-F SureExpr SureTypeParamBound SureGenericArgument SurePathArguments SureType SureExprPath SureTraitBound SurePath SurePathSegment SureTypeArray SureTypePath) → forget_array y ≡ x → Keeps array_depth erased_array (roll-TypeArray x)
array_step x y is = subst (λ x. Keeps array_depth erased_array (roll-TypeArray x)) is (array_at y)

type_path_step : (x : TypePathLayer) (y : TypePath-F SureExpr SureTypeParamBound SureGenericArgument SurePathArguments SureType SureExprPath SureTraitBound SurePath SurePathSegment SureTypeArray SureTypePath) → forget_type_path y ≡ x → Keeps type_path_depth erased_type_path (roll-TypePath x)
type_path_step x y is = subst (λ x. Keeps type_path_depth erased_type_path (roll-TypePath x)) is (type_path_at y)

pub expr_depth-bare : (node : Expr) → expr_depth (erased_expr node) ≡ expr_depth node
expr_depth-bare = ind-Expr (Keeps expr_depth erased_expr) (Keeps bound_depth erased_bound) (Keeps argument_depth erased_argument) (Keeps arguments_depth erased_arguments) (Keeps type_depth erased_type) (Keeps expr_path_depth erased_expr_path) (Keeps trait_bound_depth erased_trait_bound) (Keeps path_depth erased_path) (Keeps segment_depth erased_segment) (Keeps array_depth erased_array) (Keeps type_path_depth erased_type_path)
    expr_step bound_step argument_step arguments_step type_step expr_path_step trait_bound_step path_step segment_step array_step type_path_step

pub bound_depth-bare : (node : TypeParamBound) → bound_depth (erased_bound node) ≡ bound_depth node
bound_depth-bare = ind-TypeParamBound (Keeps expr_depth erased_expr) (Keeps bound_depth erased_bound) (Keeps argument_depth erased_argument) (Keeps arguments_depth erased_arguments) (Keeps type_depth erased_type) (Keeps expr_path_depth erased_expr_path) (Keeps trait_bound_depth erased_trait_bound) (Keeps path_depth erased_path) (Keeps segment_depth erased_segment) (Keeps array_depth erased_array) (Keeps type_path_depth erased_type_path)
    expr_step bound_step argument_step arguments_step type_step expr_path_step trait_bound_step path_step segment_step array_step type_path_step

pub argument_depth-bare : (node : GenericArgument) → argument_depth (erased_argument node) ≡ argument_depth node
argument_depth-bare = ind-GenericArgument (Keeps expr_depth erased_expr) (Keeps bound_depth erased_bound) (Keeps argument_depth erased_argument) (Keeps arguments_depth erased_arguments) (Keeps type_depth erased_type) (Keeps expr_path_depth erased_expr_path) (Keeps trait_bound_depth erased_trait_bound) (Keeps path_depth erased_path) (Keeps segment_depth erased_segment) (Keeps array_depth erased_array) (Keeps type_path_depth erased_type_path)
    expr_step bound_step argument_step arguments_step type_step expr_path_step trait_bound_step path_step segment_step array_step type_path_step

pub arguments_depth-bare : (node : PathArguments) → arguments_depth (erased_arguments node) ≡ arguments_depth node
arguments_depth-bare = ind-PathArguments (Keeps expr_depth erased_expr) (Keeps bound_depth erased_bound) (Keeps argument_depth erased_argument) (Keeps arguments_depth erased_arguments) (Keeps type_depth erased_type) (Keeps expr_path_depth erased_expr_path) (Keeps trait_bound_depth erased_trait_bound) (Keeps path_depth erased_path) (Keeps segment_depth erased_segment) (Keeps array_depth erased_array) (Keeps type_path_depth erased_type_path)
    expr_step bound_step argument_step arguments_step type_step expr_path_step trait_bound_step path_step segment_step array_step type_path_step

pub type_depth-bare : (node : Type') → type_depth (erased_type node) ≡ type_depth node
type_depth-bare = ind-Type (Keeps expr_depth erased_expr) (Keeps bound_depth erased_bound) (Keeps argument_depth erased_argument) (Keeps arguments_depth erased_arguments) (Keeps type_depth erased_type) (Keeps expr_path_depth erased_expr_path) (Keeps trait_bound_depth erased_trait_bound) (Keeps path_depth erased_path) (Keeps segment_depth erased_segment) (Keeps array_depth erased_array) (Keeps type_path_depth erased_type_path)
    expr_step bound_step argument_step arguments_step type_step expr_path_step trait_bound_step path_step segment_step array_step type_path_step

pub expr_path_depth-bare : (node : ExprPath) → expr_path_depth (erased_expr_path node) ≡ expr_path_depth node
expr_path_depth-bare = ind-ExprPath (Keeps expr_depth erased_expr) (Keeps bound_depth erased_bound) (Keeps argument_depth erased_argument) (Keeps arguments_depth erased_arguments) (Keeps type_depth erased_type) (Keeps expr_path_depth erased_expr_path) (Keeps trait_bound_depth erased_trait_bound) (Keeps path_depth erased_path) (Keeps segment_depth erased_segment) (Keeps array_depth erased_array) (Keeps type_path_depth erased_type_path)
    expr_step bound_step argument_step arguments_step type_step expr_path_step trait_bound_step path_step segment_step array_step type_path_step

pub trait_bound_depth-bare : (node : TraitBound) → trait_bound_depth (erased_trait_bound node) ≡ trait_bound_depth node
trait_bound_depth-bare = ind-TraitBound (Keeps expr_depth erased_expr) (Keeps bound_depth erased_bound) (Keeps argument_depth erased_argument) (Keeps arguments_depth erased_arguments) (Keeps type_depth erased_type) (Keeps expr_path_depth erased_expr_path) (Keeps trait_bound_depth erased_trait_bound) (Keeps path_depth erased_path) (Keeps segment_depth erased_segment) (Keeps array_depth erased_array) (Keeps type_path_depth erased_type_path)
    expr_step bound_step argument_step arguments_step type_step expr_path_step trait_bound_step path_step segment_step array_step type_path_step

pub path_depth-bare : (node : Path) → path_depth (erased_path node) ≡ path_depth node
path_depth-bare = ind-Path (Keeps expr_depth erased_expr) (Keeps bound_depth erased_bound) (Keeps argument_depth erased_argument) (Keeps arguments_depth erased_arguments) (Keeps type_depth erased_type) (Keeps expr_path_depth erased_expr_path) (Keeps trait_bound_depth erased_trait_bound) (Keeps path_depth erased_path) (Keeps segment_depth erased_segment) (Keeps array_depth erased_array) (Keeps type_path_depth erased_type_path)
    expr_step bound_step argument_step arguments_step type_step expr_path_step trait_bound_step path_step segment_step array_step type_path_step

pub segment_depth-bare : (node : PathSegment) → segment_depth (erased_segment node) ≡ segment_depth node
segment_depth-bare = ind-PathSegment (Keeps expr_depth erased_expr) (Keeps bound_depth erased_bound) (Keeps argument_depth erased_argument) (Keeps arguments_depth erased_arguments) (Keeps type_depth erased_type) (Keeps expr_path_depth erased_expr_path) (Keeps trait_bound_depth erased_trait_bound) (Keeps path_depth erased_path) (Keeps segment_depth erased_segment) (Keeps array_depth erased_array) (Keeps type_path_depth erased_type_path)
    expr_step bound_step argument_step arguments_step type_step expr_path_step trait_bound_step path_step segment_step array_step type_path_step

pub array_depth-bare : (node : TypeArray) → array_depth (erased_array node) ≡ array_depth node
array_depth-bare = ind-TypeArray (Keeps expr_depth erased_expr) (Keeps bound_depth erased_bound) (Keeps argument_depth erased_argument) (Keeps arguments_depth erased_arguments) (Keeps type_depth erased_type) (Keeps expr_path_depth erased_expr_path) (Keeps trait_bound_depth erased_trait_bound) (Keeps path_depth erased_path) (Keeps segment_depth erased_segment) (Keeps array_depth erased_array) (Keeps type_path_depth erased_type_path)
    expr_step bound_step argument_step arguments_step type_step expr_path_step trait_bound_step path_step segment_step array_step type_path_step

pub type_path_depth-bare : (node : TypePath) → type_path_depth (erased_type_path node) ≡ type_path_depth node
type_path_depth-bare = ind-TypePath (Keeps expr_depth erased_expr) (Keeps bound_depth erased_bound) (Keeps argument_depth erased_argument) (Keeps arguments_depth erased_arguments) (Keeps type_depth erased_type) (Keeps expr_path_depth erased_expr_path) (Keeps trait_bound_depth erased_trait_bound) (Keeps path_depth erased_path) (Keeps segment_depth erased_segment) (Keeps array_depth erased_array) (Keeps type_path_depth erased_type_path)
    expr_step bound_step argument_step arguments_step type_step expr_path_step trait_bound_step path_step segment_step array_step type_path_step
