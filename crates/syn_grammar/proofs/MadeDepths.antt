-- The depth of the nodes that a parser makes, whose parts stand in a record or in two lists.
use Rattle.std.proofs.Common.{◌≡◌, suc, max, List, [], ◌∷◌, map, refl, ap, ◌∙◌}
use Rattle.tok_types.specs.declared.ident.Lifetime.{Lifetime}
use Rattle.tok_types.specs.declared.span.Span.{Span}
use Rattle.node_expr.specs.declared.expr.Expr.{Expr}
use Rattle.node_expr.specs.declared.generics.TypeParamBound.{TypeParamBound}
use Rattle.node_expr.specs.declared.ty.NamedArg.{NamedArg}
use Rattle.node_expr.specs.declared.ty.ReturnType.{ReturnType}
use Rattle.node_expr.specs.declared.ty.«Type».{«Type» as Type'}
use Rattle.node_expr.specs.declared.ty.«Type».TheVariants as ty
use Rattle.node_expr.specs.declared.ty.TypeArray.{roll-TypeArray}
use Rattle.syn_grammar.specs.Depth.{deepest, inputs_depth, input_deep, bound_depth, expr_depth, return_depth, type_depth}
use Rattle.syn_grammar.proofs.Deepest.{deepest-map-append}
use Rattle.syn_grammar.proofs.Depths.{path_depth-roll, type_depth-Array, type_depth-FnPtr, type_depth-ImplTrait, type_depth-Paren, type_depth-Slice, type_depth-TraitObject, type_depth-Tuple, array_depth-roll}

pub inputs_depth-map : (inputs : List (NamedArg Type')) → inputs_depth (map input_deep inputs) ≡ deepest (map (λ input. type_depth input.ty) inputs)
inputs_depth-map [] = refl
inputs_depth-map (input ∷ more) = ap (max (type_depth input.ty)) (inputs_depth-map more)

pub type_depth-Tuple-of : (elems : List Type') (span : Span) → type_depth (ty.Tuple (record { elems = elems; span = span })) ≡ suc (deepest (map type_depth elems))
type_depth-Tuple-of elems span = type_depth-Tuple (record { elems = elems; span = span })

pub type_depth-Slice-of : (elem : Type') (span : Span) → type_depth (ty.Slice (record { elem = elem; span = span })) ≡ suc (type_depth elem)
type_depth-Slice-of elem span = type_depth-Slice (record { elem = elem; span = span })

pub type_depth-Array-of : (elem : Type') (len : Expr) (span : Span) → type_depth (ty.Array (roll-TypeArray (record { elem = elem; len = len; span = span }))) ≡ suc (max (type_depth elem) (expr_depth len))
type_depth-Array-of elem len span = type_depth-Array (roll-TypeArray (record { elem = elem; len = len; span = span })) ∙ ap suc (array_depth-roll elem len span)

pub type_depth-TraitObject-of : (bounds : List TypeParamBound) (span : Span) → type_depth (ty.TraitObject (record { bounds = bounds; span = span })) ≡ suc (deepest (map bound_depth bounds))
type_depth-TraitObject-of bounds span = type_depth-TraitObject (record { bounds = bounds; span = span })

pub type_depth-ImplTrait-of : (bounds : List TypeParamBound) (span : Span) → type_depth (ty.ImplTrait (record { bounds = bounds; span = span })) ≡ suc (deepest (map bound_depth bounds))
type_depth-ImplTrait-of bounds span = type_depth-ImplTrait (record { bounds = bounds; span = span })

pub type_depth-FnPtr-of : (lifetimes : List Lifetime) (inputs : List (NamedArg Type')) (output : ReturnType Type') (span : Span)
    → type_depth (ty.FnPtr (record { lifetimes = lifetimes; inputs = inputs; output = output; span = span })) ≡ suc (max (deepest (map (λ input. type_depth input.ty) inputs)) (return_depth output))
type_depth-FnPtr-of lifetimes inputs output span =
    type_depth-FnPtr (record { lifetimes = lifetimes; inputs = inputs; output = output; span = span }) ∙ ap (λ depth. suc (max depth (return_depth output))) (inputs_depth-map inputs)

-- for what stands in `(..)` or `[..]`
pub ruleset group_depths = (type_depth-Tuple-of, type_depth-Paren, type_depth-Slice-of, type_depth-Array-of)

-- for types of bounds
pub ruleset bounds_depths = (type_depth-TraitObject-of, type_depth-ImplTrait-of)

-- for a function pointer
pub ruleset fn_ptr_depths = (type_depth-FnPtr-of)

-- for a path of two lists of segments
pub ruleset path_depths = (path_depth-roll, deepest-map-append)
