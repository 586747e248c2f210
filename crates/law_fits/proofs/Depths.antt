-- The types among the arguments of a type are less deep than it.
use Rattle.std.proofs.Common.{◌∙◌, ◌≤◌, ◌<◌, ap, arith, ℕ, zero, suc, Bool, true, false, if◌then◌else◌, is_none, IfSome, List, [], ◌∷◌, map, length, slice_get, ◌-◌, Option, Some, None, subst, sym}
use Rattle.node_expr.specs.declared.expr.Expr.TheOpen.{GenericArgument-F, PathArguments-F, Type-F}
use Rattle.node_expr.specs.declared.path.GenericArgument.{GenericArgument, out-GenericArgument, roll-GenericArgument, roll-out-GenericArgument}
use Rattle.node_expr.specs.declared.path.GenericArgument.TheVariants as argument
use Rattle.node_expr.specs.declared.path.Path.{Path, out-Path, roll-out-Path}
use Rattle.node_expr.specs.declared.path.PathArguments.{PathArguments, out-PathArguments, roll-PathArguments, roll-out-PathArguments}
use Rattle.node_expr.specs.declared.path.PathArguments.TheVariants as path_arguments
use Rattle.node_expr.specs.declared.path.PathSegment.{PathSegment, out-PathSegment, roll-out-PathSegment}
use Rattle.node_expr.specs.declared.ty.«Type».{«Type» as Type', out-Type, roll-Type, roll-out-Type}
use Rattle.node_expr.specs.declared.ty.«Type».TheVariants as ty
use Rattle.node_expr.specs.declared.ty.TypePath.{TypePath, out-TypePath, roll-out-TypePath}
use Rattle.node_expr.specs.Layers.{GenericArgumentLayer, PathArgumentsLayer, TypeLayer}
use Rattle.syn_grammar.specs.Depth.{argument_depth, arguments_depth, deepest, path_depth, segment_depth, type_depth, type_path_depth}
use Rattle.syn_grammar.proofs.Depths.{argument_depth-Ty, arguments_depth-AngleBracketed, path_depth-roll, segment_depth-roll, type_depth-Array, type_depth-FnPtr, type_depth-Group, type_depth-ImplTrait, type_depth-Infer, type_depth-Never, type_depth-Paren, type_depth-Path, type_depth-Ptr, type_depth-Reference, type_depth-Slice, type_depth-TraitObject, type_depth-Tuple, type_path_depth-roll}
use Rattle.machine_rows.specs.declared.arguments.Arguments.{Arguments}
use Rattle.machine_rows.specs.declared.arguments.Arguments.TheVariants as arguments
use Rattle.machine_rows.specs.Arguments.{arguments_at, arguments_in, between, last_arguments, layer_arguments, layer_type, one, two, type_in}
use Rattle.machine_rows.specs.Paths.{layer_segments, segments_in}

-- each type of the arguments is such
abbrev pub AreSuch : (Type' → Type 0) → Arguments Type' → Type 0
AreSuch IsSuch (arguments.One only) = IsSuch only
AreSuch IsSuch (arguments.Two first second) = IsSuch first × IsSuch second
AreSuch IsSuch arguments.Bare = Unit {0}
AreSuch IsSuch arguments.Other = Unit {0}

layer_deep : (layer : TypeLayer) → 0 < type_depth (roll-Type layer)
layer_deep (Type-F.«Type::Path» it) = let e = ap type_depth (ty.rolls-Path it) ∙ type_depth-Path it in omega (arith, e)
layer_deep (Type-F.«Type::Reference» it) = let e = ap type_depth (ty.rolls-Reference it) ∙ type_depth-Reference it in omega (arith, e)
layer_deep (Type-F.Ptr it) = let e = ap type_depth (ty.rolls-Ptr it) ∙ type_depth-Ptr it in omega (arith, e)
layer_deep (Type-F.Slice it) = let e = ap type_depth (ty.rolls-Slice it) ∙ type_depth-Slice it in omega (arith, e)
layer_deep (Type-F.«Type::Array» it) = let e = ap type_depth (ty.rolls-Array it) ∙ type_depth-Array it in omega (arith, e)
layer_deep (Type-F.«Type::Tuple» it) = let e = ap type_depth (ty.rolls-Tuple it) ∙ type_depth-Tuple it in omega (arith, e)
layer_deep (Type-F.«Type::Paren» it) = let e = ap type_depth (ty.rolls-Paren it) ∙ type_depth-Paren it in omega (arith, e)
layer_deep (Type-F.«Type::Group» it) = let e = ap type_depth (ty.rolls-Group it) ∙ type_depth-Group it in omega (arith, e)
layer_deep (Type-F.FnPtr it) = let e = ap type_depth (ty.rolls-FnPtr it) ∙ type_depth-FnPtr it in omega (arith, e)
layer_deep (Type-F.TraitObject it) = let e = ap type_depth (ty.rolls-TraitObject it) ∙ type_depth-TraitObject it in omega (arith, e)
layer_deep (Type-F.ImplTrait it) = let e = ap type_depth (ty.rolls-ImplTrait it) ∙ type_depth-ImplTrait it in omega (arith, e)
layer_deep (Type-F.Never it) = let e = ap type_depth (ty.rolls-Never it) ∙ type_depth-Never it in omega (arith, e)
layer_deep (Type-F.«Type::Infer» it) = let e = ap type_depth (ty.rolls-Infer it) ∙ type_depth-Infer it in omega (arith, e)

-- a type is at least 1 deep
pub type_deep : (type : Type') → 0 < type_depth type
type_deep type = subst (λ it. 0 < type_depth it) (roll-out-Type type) (layer_deep (out-Type type))

module _ (limit : ℕ) where
  -- no deeper than the limit
  abbrev IsWithin : Type' → Type 0
  IsWithin it = type_depth it ≤ limit

  argument_layer : (layer : GenericArgumentLayer) → argument_depth (roll-GenericArgument layer) ≤ limit → IfSome (layer_type layer) IsWithin
  argument_layer (GenericArgument-F.Ty it) h = let e = ap argument_depth (argument.rolls-Ty it) ∙ argument_depth-Ty it in subst (λ depth. depth ≤ limit) e h
  argument_layer (GenericArgument-F.«GenericArgument::Lifetime» it) h = tt
  argument_layer (GenericArgument-F.Const it) h = tt
  argument_layer (GenericArgument-F.AssocType ident it span) h = tt
  argument_layer (GenericArgument-F.AssocConst ident it span) h = tt
  argument_layer (GenericArgument-F.Constraint ident bounds span) h = tt

  argument_within : (it : GenericArgument) → argument_depth it ≤ limit → IfSome (type_in it) IsWithin
  argument_within it h = argument_layer (out-GenericArgument it) (subst (λ node. argument_depth node ≤ limit) (sym (roll-out-GenericArgument it)) h)

  one_within : (only : Option Type') → IfSome only IsWithin → AreSuch IsWithin (one only)
  one_within None h = tt
  one_within (Some only) h = h

  two_within : (first second : Option Type') → IfSome first IsWithin → IfSome second IsWithin → AreSuch IsWithin (two first second)
  two_within None None h g = tt
  two_within None (Some second) h g = tt
  two_within (Some first) None h g = tt
  two_within (Some first) (Some second) h g = (h, g)

  between_within : (items : List GenericArgument) → deepest (map argument_depth items) ≤ limit → AreSuch IsWithin (between items)
  between_within [] h = tt
  between_within (only ∷ []) h = one_within (type_in only) (argument_within only (omega (arith, h)))
  between_within (first ∷ second ∷ []) h = two_within (type_in first) (type_in second) (argument_within first (omega (arith, h))) (argument_within second (omega (arith, h)))
  between_within (first ∷ second ∷ third ∷ more) h = tt

  arguments_layer : (layer : PathArgumentsLayer) → arguments_depth (roll-PathArguments layer) ≤ limit → AreSuch IsWithin (layer_arguments layer)
  arguments_layer PathArguments-F.None h = tt
  arguments_layer (PathArguments-F.AngleBracketed items) h =
      let e = ap arguments_depth (path_arguments.rolls-AngleBracketed items) ∙ arguments_depth-AngleBracketed items in
      between_within items (subst (λ depth. depth ≤ limit) e h)
  arguments_layer (PathArguments-F.Parenthesized inputs output span) h = tt

  arguments_within : (it : PathArguments) → arguments_depth it ≤ limit → AreSuch IsWithin (arguments_in it)
  arguments_within it h = arguments_layer (out-PathArguments it) (subst (λ node. arguments_depth node ≤ limit) (sym (roll-out-PathArguments it)) h)

  -- the arguments of any of the segments
  segment_within : (segments : List PathSegment) (place : ℕ) → deepest (map segment_depth segments) ≤ limit → AreSuch IsWithin (arguments_at (slice_get segments place))
  segment_within [] place h = tt
  segment_within (first ∷ more) zero h =
      let e = ap segment_depth (sym (roll-out-PathSegment first)) ∙ segment_depth-roll (out-PathSegment first).ident (out-PathSegment first).arguments (out-PathSegment first).span in
      arguments_within (out-PathSegment first).arguments (omega (arith, e, h))
  segment_within (first ∷ more) (suc place) h = segment_within more place (omega (arith, h))

  path_within : (it : Path) → path_depth it ≤ limit → deepest (map segment_depth (out-Path it).segments) ≤ limit
  path_within it h =
      let e = ap path_depth (sym (roll-out-Path it)) ∙ path_depth-roll (out-Path it).leading_colon (out-Path it).segments (out-Path it).span in
      subst (λ depth. depth ≤ limit) e h

  type_path_within : (it : TypePath) → type_path_depth it ≤ limit → path_depth (out-TypePath it).path ≤ limit
  type_path_within it h =
      let e = ap type_path_depth (sym (roll-out-TypePath it)) ∙ type_path_depth-roll (out-TypePath it).qself (out-TypePath it).path (out-TypePath it).span in
      omega (arith, e, h)

  bare_within : (bare : Bool) (segments : List PathSegment) → deepest (map segment_depth segments) ≤ limit → AreSuch IsWithin (last_arguments (if bare then segments else []))
  bare_within true segments h = segment_within segments (length segments - 1) h
  bare_within false segments h = tt

  type_layer : (layer : TypeLayer) → type_depth (roll-Type layer) ≤ suc limit → AreSuch IsWithin (last_arguments (layer_segments layer))
  type_layer (Type-F.«Type::Path» it) h =
      let e = ap type_depth (ty.rolls-Path it) ∙ type_depth-Path it in
      bare_within (is_none (out-TypePath it).qself) (out-Path (out-TypePath it).path).segments (path_within (out-TypePath it).path (type_path_within it (omega (arith, e, h))))
  type_layer (Type-F.«Type::Reference» it) h = tt
  type_layer (Type-F.Ptr it) h = tt
  type_layer (Type-F.Slice it) h = tt
  type_layer (Type-F.«Type::Array» it) h = tt
  type_layer (Type-F.«Type::Tuple» it) h = tt
  type_layer (Type-F.«Type::Paren» it) h = tt
  type_layer (Type-F.«Type::Group» it) h = tt
  type_layer (Type-F.FnPtr it) h = tt
  type_layer (Type-F.TraitObject it) h = tt
  type_layer (Type-F.ImplTrait it) h = tt
  type_layer (Type-F.Never it) h = tt
  type_layer (Type-F.«Type::Infer» it) h = tt

  -- the types between the angles of a type are one level less deep
  pub arguments_less_deep : (type : Type') → type_depth type ≤ suc limit → AreSuch IsWithin (last_arguments (segments_in type))
  arguments_less_deep type h = type_layer (out-Type type) (subst (λ it. type_depth it ≤ suc limit) (sym (roll-out-Type type)) h)
